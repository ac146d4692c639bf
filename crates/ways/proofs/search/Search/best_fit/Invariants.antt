use Rattle.std.proofs.Common.{◌≡◌}
use Rattle.ways.specs.Sought.{sought}
use Rattle.ways.specs.Ways.{best_fit}
use Rattle.ways.proofs.search.Search.best_fit.Given as goal

abbrev pub invariant-loop-k : goal.invariant-loop-k
invariant-loop-k g l = l.best ≡ best_fit (sought g.C.Cost.kind l.self) l.k
