use Rattle.network.proofs.Finds.{chosen_stands}
use Rattle.network.proofs.search.chosen_is_the_least.Goals as goal

pub returns : goal.returns
returns g c = chosen_stands g.C.Cost.kind g.C.Cost.laws
