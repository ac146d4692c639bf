use Rattle.std.proofs.Common.{◌∙◌, arith}
use Rattle.hour_bits.specs.Bits.{row, bits}
use Rattle.hour_bits.proofs.Ones.{count_most, count_same}
use Rattle.hour_bits.proofs.row.row_count.Goals as goal

pub returns : goal.returns
returns c = record {
  most = omega (arith, c.count.ensures, count_most (bits c.load.result));
  is = c.count.ensures ∙ count_same (bits c.load.result) (row c.args.words.now c.args.at) c.load.ensures;
}
