-- What the rows of a timetable keep.
use Rattle.std.proofs.Common.{vec_items}
use Rattle.calendar.specs.Rows.{Kept}
use Rattle.calendar.proofs.Props.{rows_kept}
use Rattle.plant.specs.declared.timetable.Timetable.{Timetable}

pub kept : (t : Timetable) → Kept (vec_items t.rows) t.links t.channels
kept t = rows_kept (vec_items t.rows) t.links t.channels t.kept
