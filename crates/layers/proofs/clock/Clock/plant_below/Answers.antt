use Rattle.std.proofs.Common.{refl}
use Rattle.calendar.specs.Layers.{clocked}
use Rattle.calendar.proofs.Clocked.{room_clocked}
use Rattle.layers.proofs.HeldCounts.{count_clocked}
use Rattle.layers.proofs.clock.Clock.plant_below.Goals as goal

pub returns : goal.returns
unfolding clocked
returns g c =
    let s = c.args.self.now in
    let m = g.P.Plant.meaning s.below in
    record {
      plant = refl;
      size = refl;
      passed = record { room = room_clocked s.table.hours s.table.week m; count = count_clocked s.table.hours s.table.week m };
    }
