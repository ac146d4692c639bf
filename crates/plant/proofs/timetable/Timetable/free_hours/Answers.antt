use Rattle.std.proofs.Common.{◌≡◌, ℕ, min, cond, ◌&&◌, eqb, ◌∙◌, rules}
use Rattle.std.specs.List.{fold}
use Rattle.calendar.specs.Week.{until}
use Rattle.calendar.specs.Rows.{no_run}
use Rattle.calendar.specs.declared.run.Run.{Run}
use Rattle.calendar.proofs.Plants.{proper_parts}
use Rattle.calendar.proofs.Gaps.{row_on, row_free, rows_free}
use Rattle.plant.specs.Means.{table_means}
use Rattle.plant.proofs.Tables.{kept}
use Rattle.plant.proofs.Lists.{least_list}
use Rattle.plant.proofs.timetable.Timetable.free_hours.Goals as goal

pub returns : goal.returns
returns c =
    let t = c.args.self.now in
    let r = c.args.run in
    let free : Run → ℕ = λ row. cond (eqb r.link row.link && eqb r.channel row.channel) (min (until row.first row.hours r.first) r.hours) r.hours in
    let e : c.fold.result ≡ fold (λ b row. min (free row) b) r.hours t.rows.items = search rules in
    e ∙ least_list r.hours free (λ row. row_on row r) (λ row. row_free row r (proper_parts (table_means t) r c.requires).2) t.rows.items no_run
    ∙ rows_free t.rows.items t.links t.channels (kept t) r c.requires
