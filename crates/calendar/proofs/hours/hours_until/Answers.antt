use Rattle.std.proofs.Common.{◌∙◌, arith}
use Rattle.calendar.proofs.Circle.{until_by}
use Rattle.calendar.proofs.hours.hours_until.Goals as goal

pub returns : goal.returns
returns c =
    c.wait.ensures
    ∙ until_by c.args.first c.args.hours c.args.hour c.hours_between.result c.hours_between-2.result (omega arith) (omega arith) c.hours_between.ensures c.hours_between-2.ensures
