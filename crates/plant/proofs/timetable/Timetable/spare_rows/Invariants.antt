use Rattle.std.proofs.Common.{◌≡◌, ◌≤◌, eqb, count_by, take}
use Rattle.calendar.specs.declared.run.Run.{Run}
use Rattle.plant.proofs.timetable.Timetable.spare_rows.Given as goal

abbrev pub invariant-loop-row : goal.invariant-loop-row
invariant-loop-row l = (l.count ≤ l.row-index) × (l.count ≡ count_by (λ (r : Run). eqb r.hours 0) (take l.row-index l.self.rows.items))
