use Rattle.std.proofs.Common.{arith}
use Rattle.network.specs.Flags.{may_use}
use Rattle.network.specs.Grounds.{ground_of}
use Rattle.network.proofs.Crossings.{ground_within}
use Rattle.network.proofs.Rows.{table_none, table_more}
use Rattle.network.proofs.search.Scratch.fill.Goals as goal

pub loop-j-init : goal.loop-j-init
loop-j-init g c = table_none (ground_of g.C.Cost.kind c.args.over) c.args.to c.first_row.new.self.cells.items c.first_row.ensures

pub loop-j-preserved : goal.loop-j-preserved
loop-j-preserved g c =
    let over = c.args.over in
    let k = g.C.Cost.kind in
    let l = c.loop-j in
    table_more (ground_of k over) (ground_within over.net.now (may_use over.usable.now) k) c.args.to l.self.cells.items c.next_row.new.self.cells.items l.j l.invariant c.next_row.ensures

pub returns : goal.returns
returns g c = λ j v a h. c.loop-j.invariant j v (omega (arith, c.hops-j-end.ensures)) h
