use Rattle.std.proofs.Common.{arith}
use Rattle.std.proofs.lemmas.Grind.{common_steps}
use Rattle.network.specs.Paths.{price_of}
use Rattle.network.proofs.search.ground.price.Goals as goal

pub returns : goal.returns
unfolding price_of
returns g c = grind (arith, common_steps)
