use Rattle.std.proofs.Common.{◌≡◌, Option, cond, ltb, Some, None, rules}
use Rattle.calendar.specs.Layers.{moved}
use Rattle.calendar.specs.declared.run.Run.{Run}
use Rattle.layers.proofs.Clocks.{run_stands}
use Rattle.layers.proofs.clock.Clock.run_below.Goals as goal

pub returns : goal.returns
returns g c =
    let s = c.args.self.now in
    let e : ◌≡◌ {A = Option Run} c.then.result (cond (ltb c.args.run.first 168) (Some (moved s.table.hours c.args.run)) None) = search rules in
    rw e (run_stands s.table.hours s.table.week (g.P.Plant.meaning s.below) c.args.run)
