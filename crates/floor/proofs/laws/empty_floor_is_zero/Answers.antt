use Rattle.floor.proofs.Floors.{empty_floor}
use Rattle.floor.proofs.laws.empty_floor_is_zero.Goals as goal

pub returns : goal.returns
returns c = empty_floor
