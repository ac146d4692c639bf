use Rattle.ways.specs.Sought.{sought}
use Rattle.ways.proofs.Fits.{first_none, first_next, first_found}
use Rattle.ways.proofs.search.Search.first_fit.Goals as goal

pub loop-k-init : goal.loop-k-init
loop-k-init g c = first_none (sought g.C.Cost.kind c.args.self.now)

pub returns-in-Some : goal.returns-in-Some
returns-in-Some g c =
    let s = c.args.self.now in
    first_found (sought g.C.Cost.kind s) s.free.now.channels c.loop-k.k c.in-Some.way c.loop-k-test.true c.loop-k.invariant c.in-Some.ensures

pub loop-k-preserved : goal.loop-k-preserved
loop-k-preserved g c = first_next (sought g.C.Cost.kind c.args.self.now) c.loop-k.k c.loop-k.invariant c.in_default.ensures
