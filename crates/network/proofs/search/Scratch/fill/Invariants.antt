use Rattle.network.specs.Grounds.{ground_of}
use Rattle.network.specs.Method.{Tabled}
use Rattle.network.proofs.search.Scratch.fill.Given as goal

abbrev pub invariant-loop-j : goal.invariant-loop-j
invariant-loop-j g l = Tabled (ground_of g.C.Cost.kind l.over) l.to l.self.cells.items l.j
