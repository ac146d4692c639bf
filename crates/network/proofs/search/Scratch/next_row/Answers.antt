use Rattle.std.proofs.Common.{refl, ◌∙◌, arith}
use Rattle.network.specs.Flags.{may_use}
use Rattle.network.specs.Grounds.{ground_of}
use Rattle.network.proofs.Crossings.{crossing_absent, ground_within}
use Rattle.network.proofs.Rows.{row_start, row_more, row_all}
use Rattle.network.proofs.search.Scratch.next_row.Goals as goal

pub loop-number-init : goal.loop-number-init
loop-number-init g c =
    let over = c.args.over in
    (λ v h. c.clear_row.ensures.here v h ∙ row_start (ground_of g.C.Cost.kind over) _ v (crossing_absent over.net.now (may_use over.usable.now) 0 refl v), λ k v a h. refl)

pub loop-number-preserved : goal.loop-number-preserved
loop-number-preserved g c =
    let over = c.args.over in
    let k = g.C.Cost.kind in
    let l = c.loop-number in
    row_more (ground_of k over) (ground_within over.net.now (may_use over.usable.now) k) c.clear_row.new.self.cells.items l.self.cells.items c.relax_link.new.self.cells.items c.args.j l.number l.invariant.0 l.invariant.1 c.relax_link.ensures

pub returns : goal.returns
returns g c =
    let over = c.args.over in
    let k = g.C.Cost.kind in
    let l = c.loop-number in
    row_all (ground_of k over) (ground_within over.net.now (may_use over.usable.now) k) c.args.self.now.cells.items c.clear_row.new.self.cells.items l.self.cells.items c.args.j l.number
    (λ m v a h. c.clear_row.ensures.below m v (omega arith) h)
    l.invariant.0
    l.invariant.1
    (omega (arith, c.link_count-number-end.ensures))
