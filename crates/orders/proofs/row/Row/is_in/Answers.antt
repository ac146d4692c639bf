use Rattle.std.proofs.Common.{arith}
use Rattle.std.proofs.lemmas.Grind.{common_steps}
use Rattle.orders.specs.Standing.{takes, in_cell}
use Rattle.orders.proofs.row.Row.is_in.Goals as goal
use Rattle.orders.proofs.row.Row.is_in.Goals.{then-crosses, else-crosses}

pub returns-then-has_channel : goal.returns-then-has_channel
unfolding in_cell takes
returns-then-has_channel c = elim c.if-crosses.branch [ then-crosses w ↦ grind (arith, common_steps) | else-crosses w ↦ grind (arith, common_steps) ]

pub returns-else-has_channel : goal.returns-else-has_channel
unfolding in_cell takes
returns-else-has_channel c = elim c.if-crosses.branch [ then-crosses w ↦ grind (arith, common_steps) | else-crosses w ↦ grind (arith, common_steps) ]
