use Rattle.std.proofs.Common.{ap, ◌∙◌}
use Rattle.network.specs.Paths.{has}
use Rattle.orders.proofs.Rows.{has_listed}
use Rattle.orders.proofs.row.Row.crosses.Goals as goal

pub returns : goal.returns
returns c = c.contains.ensures.value ∙ has_listed c.args.link c.links.result.now ∙ ap (has c.args.link) c.links.ensures
