use Rattle.std.proofs.Common.{arith}
use Rattle.calendar.proofs.Circle.{covers_by}
use Rattle.calendar.proofs.hours.covers_hour.Goals as goal

pub returns : goal.returns
returns c = covers_by c.args.first c.args.hours c.args.hour c.hours_between.result (omega arith) c.hours_between.ensures
