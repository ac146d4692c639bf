use Rattle.network.specs.Grounds.{ground_of}
use Rattle.network.specs.Method.{greedy, cell_at}
use Rattle.network.proofs.Steps.{Walked}
use Rattle.network.proofs.search.Scratch.walk_out.Given as goal

abbrev pub invariant-loop-step : goal.invariant-loop-step
invariant-loop-step g l =
    let k = g.C.Cost.kind in
    let over = ground_of k l.over in
    let rows = cell_at l.self.cells.items in
    Walked over l.bound rows l.count (greedy over l.bound rows l.count l.from k.none) l.path l.step l.v l.paid
