use Rattle.std.proofs.Common.{◌≡◌, ◌*◌, ◌≤◌, take}
use Rattle.plant.specs.Means.{link_hours}
use Rattle.plant.proofs.timetable.Timetable.link_hours.Given as goal

abbrev pub invariant-loop-row : goal.invariant-loop-row
invariant-loop-row l = (l.sum ≤ 255 * l.row-index) × (l.sum ≡ link_hours (take l.row-index l.self.rows.items) l.link)
