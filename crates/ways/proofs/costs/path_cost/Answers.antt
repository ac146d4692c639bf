use Rattle.ways.proofs.Totals.{cost_more}
use Rattle.ways.proofs.costs.path_cost.Goals as goal

pub loop-number-preserved : goal.loop-number-preserved
loop-number-preserved g c =
    let k = g.C.Cost in
    let l = c.loop-number in
    cost_more k.kind k.laws c.args.net.now c.args.links.now l.number-index l.cost c.join-cost.result c.price.result l.invariant c.price.ensures c.join-cost.ensures
