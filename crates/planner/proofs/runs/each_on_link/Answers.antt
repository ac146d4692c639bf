use Rattle.orders.proofs.Turns.{link_none, link_more}
use Rattle.orders.specs.Standing.{stood}
use Rattle.planner.proofs.runs.each_on_link.Goals as goal

pub loop-w-init : goal.loop-w-init
loop-w-init g c does steps = link_none does _ (stood c.args.row.now) _

pub loop-w-preserved : goal.loop-w-preserved
loop-w-preserved g c does steps =
    link_more does (g.P.Plant.meaning c.args.plant.now) (stood c.args.row.now) c.args.i c.loop-w.w c.link_at-link.result
    (g.P.Plant.meaning c.loop-w.plant) (g.P.Plant.meaning c.step.new.arg2) c.run_on.result
    (c.loop-w.invariant does steps) c.link_at-link.ensures c.run_on.ensures (steps _ _ _ _ c.step.ensures)
