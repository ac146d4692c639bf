use Rattle.floor.proofs.Owns.{own_plan_law}
use Rattle.floor.proofs.laws.own_ways_are_a_plan.Goals as goal

pub returns : goal.returns
returns c = own_plan_law
