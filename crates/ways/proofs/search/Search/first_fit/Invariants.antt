use Rattle.std.proofs.Common.{◌≡◌, None}
use Rattle.ways.specs.Sought.{sought}
use Rattle.ways.specs.Ways.{first_fit}
use Rattle.ways.proofs.search.Search.first_fit.Given as goal

abbrev pub invariant-loop-k : goal.invariant-loop-k
invariant-loop-k g l = first_fit (sought g.C.Cost.kind l.self) l.k ≡ None
