use Rattle.std.proofs.Common.{refl}
use Rattle.calendar.specs.Meaning.{is_held}
use Rattle.calendar.specs.Layers.{windowed}
use Rattle.calendar.proofs.Windowed.{room_windowed}
use Rattle.layers.proofs.HeldCounts.{count_windowed}
use Rattle.layers.proofs.windows.Windows.plant_below.Goals as goal

pub returns : goal.returns
unfolding windowed is_held
returns g c =
    let s = c.args.self.now in
    let ws = s.table.windows in
    let n = s.table.count in
    let m = g.P.Plant.meaning s.below in
    record {
      plant = refl;
      size = refl;
      passed = record { room = room_windowed ws n m; count = count_windowed ws n m };
      held = λ l x h. refl;
      closed = λ l x h. refl;
    }
