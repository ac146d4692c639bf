use Rattle.floor.proofs.Floors.{floor_law}
use Rattle.floor.proofs.laws.floor_is_below_every_plan.Goals as goal

pub returns : goal.returns
returns c = floor_law
