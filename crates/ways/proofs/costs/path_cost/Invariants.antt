use Rattle.std.proofs.Common.{◌≡◌, take}
use Rattle.ways.specs.Ways.{path_cost}
use Rattle.ways.proofs.costs.path_cost.Given as goal

abbrev pub invariant-loop-number : goal.invariant-loop-number
invariant-loop-number g l = l.cost ≡ path_cost g.C.Cost.kind l.net (take l.number-index l.links)
