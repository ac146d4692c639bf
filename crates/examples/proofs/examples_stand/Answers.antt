use mathlib.Core.Path.{refl}
use Rattle.calendar.specs.Week.{any, total, covers, shares}
use Rattle.examples.proofs.examples_stand.Goals as goal

pub returns : goal.returns
unfolding any total covers shares
returns c = record { stand = refl; count = c.example_count.ensures }
