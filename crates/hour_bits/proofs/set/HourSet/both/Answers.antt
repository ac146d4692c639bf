use Rattle.std.proofs.Common.{◌+◌, ◌&&◌, ◌∙◌, arith}
use Rattle.hour_bits.specs.Bits.{bits}
use Rattle.hour_bits.proofs.Rows.{row_at, row_three}
use Rattle.hour_bits.proofs.Words.{bit_of_and}
use Rattle.hour_bits.proofs.set.HourSet.both.Goals as goal

pub returns : goal.returns
returns c h l = let ws = c.args.self.words in let vs = c.args.other.words in
    c.of_words.ensures h l
    ∙ row_three _ _ _ (λ h. bits c.args.self h && bits c.args.other h)
    (λ k q. rw (row_at ws 0 0 k k q (omega arith), row_at vs 0 0 k k q (omega arith)) (bit_of_and _ _ k))
    (λ k q. rw (row_at ws 0 1 k (64 + k) q (omega arith), row_at vs 0 1 k (64 + k) q (omega arith)) (bit_of_and _ _ k))
    (λ k q. rw (row_at ws 0 2 k (128 + k) (omega arith) (omega arith), row_at vs 0 2 k (128 + k) (omega arith) (omega arith)) (bit_of_and _ _ k))
    h l
