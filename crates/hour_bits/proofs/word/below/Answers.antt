use Rattle.std.proofs.Common.{◌-◌, sym, ap, ◌∙◌, arith}
use Rattle.std.proofs.lemmas.Bool.{lt-ltb}
use Rattle.std.proofs.lemmas.Nat.{one_shl}
use Rattle.hour_bits.specs.Bits.{bit}
use Rattle.hour_bits.proofs.Words.{bit_ones}
use Rattle.hour_bits.proofs.word.below.Goals as goal

pub returns-then-count-ge64 : goal.returns-then-count-ge64
returns-then-count-ge64 c k h = bit_ones 64 k ∙ lt-ltb k 64 h ∙ sym (lt-ltb k c.args.count (omega arith))

pub returns-else-count-ge64 : goal.returns-else-count-ge64
returns-else-count-ge64 c k h = ap (λ x. bit (x - 1) k) (one_shl c.args.count 64 (omega arith)) ∙ bit_ones c.args.count k
