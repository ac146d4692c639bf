use Rattle.std.proofs.Common.{◌≡◌, ℕ, Option, cond, ltb, Some, None, rules}
use Rattle.calendar.specs.Week.{later}
use Rattle.layers.proofs.Clocks.{hour_stands}
use Rattle.layers.proofs.clock.Clock.hour_below.Goals as goal

pub returns : goal.returns
returns g c =
    let s = c.args.self.now in
    let e : ◌≡◌ {A = Option ℕ} c.then.result (cond (ltb c.args.hour 168) (Some (later c.args.hour s.table.hours)) None) = search rules in
    rw e (hour_stands s.table.hours s.table.week (g.P.Plant.meaning s.below) c.args.hour)
