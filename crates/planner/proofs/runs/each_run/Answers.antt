use Rattle.orders.proofs.Turns.{links_none, links_more}
use Rattle.orders.specs.Standing.{stood}
use Rattle.planner.proofs.runs.each_run.Goals as goal

pub loop-i-init : goal.loop-i-init
loop-i-init g c does steps = links_none does _ (stood c.args.row.now)

pub loop-i-preserved : goal.loop-i-preserved
loop-i-preserved g c does steps =
    links_more does (g.P.Plant.meaning c.args.plant.now) (stood c.args.row.now) c.loop-i.i (g.P.Plant.meaning c.loop-i.plant) (g.P.Plant.meaning c.each_on_link.new.plant)
    (c.loop-i.invariant does steps) (c.each_on_link.ensures does steps)
