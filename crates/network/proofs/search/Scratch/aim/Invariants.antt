use Rattle.std.proofs.Common.{◌≡◌}
use Rattle.network.specs.Method.{cell_at, picks}
use Rattle.network.proofs.search.Scratch.aim.Given as goal

abbrev pub invariant-loop-j : goal.invariant-loop-j
invariant-loop-j g l = l.best ≡ picks g.C.Cost.kind.at_most (cell_at l.self.cells.items) l.from l.j
