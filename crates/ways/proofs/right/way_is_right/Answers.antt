use Rattle.ways.proofs.Rightly.{way_stands}
use Rattle.ways.proofs.right.way_is_right.Goals as goal

pub returns : goal.returns
returns g c = way_stands g.C.Cost.kind g.C.Cost.laws
