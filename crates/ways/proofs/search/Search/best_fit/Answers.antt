use Rattle.std.proofs.Common.{sym}
use Rattle.ways.specs.Sought.{sought}
use Rattle.ways.proofs.Fits.{best_none, best_more}
use Rattle.ways.proofs.search.Search.best_fit.Goals as goal

pub loop-k-init : goal.loop-k-init
loop-k-init g c = sym (best_none (sought g.C.Cost.kind c.args.self.now))

pub loop-k-preserved : goal.loop-k-preserved
loop-k-preserved g c =
    best_more (sought g.C.Cost.kind c.args.self.now) c.loop-k.k c.loop-k.best c.way_at.result c.cheaper_way-best.result c.loop-k.invariant c.way_at.ensures c.cheaper_way-best.ensures
