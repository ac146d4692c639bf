use Rattle.std.proofs.Common.{◌∙◌, arith, rules}
use Rattle.hour_bits.proofs.Words.{bit_of_or, mask_is}
use Rattle.hour_bits.proofs.word.run_mask.Goals as goal

pub returns : goal.returns
returns c k h =
    bit_of_or c.part-straight.result c.below.result k
    ∙ rw (c.part-straight.ensures k h, c.below.ensures k h)
    (mask_is c.args.j c.args.first c.args.hours k _ _ _ (omega arith) (omega arith) (search rules) (search rules) (search rules))
