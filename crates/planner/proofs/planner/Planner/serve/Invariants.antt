use Rattle.std.proofs.Common.{◌≡◌}
use Rattle.planner.specs.Seen.{seen}
use Rattle.planner.proofs.Serving.{Going}
use Rattle.planner.proofs.planner.Planner.serve.Given as goal

abbrev pub invariant-loop-slot : goal.invariant-loop-slot
invariant-loop-slot g l =
    let start = seen g.P.Plant.meaning g.C.Cost.kind l.initial.self in
    let now = seen g.P.Plant.meaning g.C.Cost.kind l.self in
    (now.rules ≡ start.rules) × Going start.rules start.plant start.standing l.initial.slots l.slot-index l.slots now.plant now.standing
