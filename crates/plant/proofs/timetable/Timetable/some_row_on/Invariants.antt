use Rattle.std.proofs.Common.{◌≡◌, false, take}
use Rattle.std.specs.List.{list_any}
use Rattle.calendar.specs.Rows.{on_cell}
use Rattle.plant.proofs.timetable.Timetable.some_row_on.Given as goal

abbrev pub invariant-loop-row : goal.invariant-loop-row
invariant-loop-row l = list_any (λ row. on_cell row l.link l.channel l.hour) (take l.row-index l.self.rows.items) ≡ false
