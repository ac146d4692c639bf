-- What a timetable means, and how many hours its rows have on a link.
--
--   table_means t      the plant whose live runs are those that the rows of t name
--   link_hours rows l  the hours of those rows that are on link l, added up
use Rattle.std.specs.Prelude.{ℕ, if◌then◌else◌, List, vec_items, sum_by, ◌==◌}
use Rattle.calendar.specs.Meaning.{Meaning}
use Rattle.calendar.specs.Rows.{tabled}
use Rattle.calendar.specs.declared.run.Run.{Run}
use Rattle.plant.specs.declared.timetable.Timetable.{Timetable}

abbrev pub table_means : Timetable → Meaning
table_means t = tabled (vec_items t.rows) t.links t.channels

abbrev pub link_hours : List Run → ℕ → ℕ
link_hours rows l = sum_by (λ (r : Run). if r.link == l then r.hours else 0) rows
