use Rattle.floor.proofs.Floors.{floor_by_law}
use Rattle.floor.proofs.laws.floor_by_is_below_every_plan.Goals as goal

pub returns : goal.returns
returns c = floor_by_law
