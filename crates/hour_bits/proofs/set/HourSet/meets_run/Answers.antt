use Rattle.std.proofs.Common.{◌∙◌}
use Rattle.hour_bits.specs.Bits.{bits}
use Rattle.hour_bits.proofs.Circle.{any_in}
use Rattle.hour_bits.proofs.set.HourSet.meets_run.Goals as goal

pub returns : goal.returns
returns c = c.meets.ensures ∙ any_in (bits c.args.self) c.args.first c.args.hours (bits c.run.result) c.run.ensures
