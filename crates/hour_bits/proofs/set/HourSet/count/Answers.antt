use Rattle.std.proofs.Common.{rules}
use Rattle.hour_bits.proofs.Ones.{row_ones}
use Rattle.hour_bits.proofs.set.HourSet.count.Goals as goal

pub returns : goal.returns
returns c = row_ones c.args.self.words (search rules) (search rules) c.args.self.week
