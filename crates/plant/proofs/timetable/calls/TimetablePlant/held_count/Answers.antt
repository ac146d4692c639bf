use Rattle.std.proofs.Common.{sym, ◌∙◌}
use Rattle.calendar.specs.Rows.{no_run}
use Rattle.calendar.proofs.Counted.{row_held, rows_held}
use Rattle.plant.proofs.Tables.{kept}
use Rattle.plant.proofs.Lists.{total_list}
use Rattle.plant.proofs.timetable.calls.TimetablePlant.held_count.Goals as goal

pub returns : goal.returns
returns c =
    let t = c.args.self.now in
    let l = c.args.link in
    c.link_hours.ensures
    ∙ sym (rows_held t.rows.items t.links t.channels (kept t) l ∙ total_list (λ r. row_held r l) t.rows.items no_run)
