use Rattle.std.proofs.Common.{◌∙◌, rules}
use Rattle.hour_bits.proofs.Words.{bit_of_and, bit_not}
use Rattle.hour_bits.proofs.word.part.Goals as goal

pub returns : goal.returns
returns c k h =
    bit_of_and c.below.result _ k
    ∙ rw (bit_not 64 c.below-2.result k (search rules) h, c.below.ensures k h, c.below-2.ensures k h)
