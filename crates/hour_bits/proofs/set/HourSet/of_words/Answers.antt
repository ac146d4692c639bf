use Rattle.std.proofs.Common.{◌≡◌, ◌+◌, Bool, true, false, ◌&&◌, sym, refl, ◌∙◌, arith}
use Rattle.std.proofs.lemmas.Bool.{lt-ltb}
use Rattle.hour_bits.specs.Bits.{row}
use Rattle.hour_bits.proofs.Rows.{row_at, row_three}
use Rattle.hour_bits.proofs.Words.{bit_of_and, bit_ones}
use Rattle.hour_bits.proofs.set.HourSet.of_words.Goals as goal

pub returns : goal.returns
returns c = let ws = c.args.words in
    row_three _ _ _ (row ws 0)
    (λ k q. sym (row_at ws 0 0 k k q (omega arith)))
    (λ k q. sym (row_at ws 0 1 k (64 + k) q (omega arith)))
    (λ k q. bit_of_and _ _ k ∙ rw (row_at ws 0 2 k (128 + k) (omega arith) (omega arith), bit_ones 40 k, lt-ltb k 40 q) (and_true _))
  where
    and_true : (b : Bool) → (b && true) ≡ b
    and_true true = refl
    and_true false = refl
