use Rattle.std.proofs.Common.{sym, ◌∙◌}
use Rattle.calendar.specs.Rows.{no_run, on_cell}
use Rattle.calendar.proofs.Tabled.{held_rows}
use Rattle.plant.proofs.Tables.{kept}
use Rattle.plant.proofs.Lists.{any_list}
use Rattle.plant.proofs.timetable.calls.TimetablePlant.held.Goals as goal

pub returns : goal.returns
returns c =
    let t = c.args.self.now in
    c.some_row_on.ensures
    ∙ sym (held_rows t.rows.items t.links t.channels (kept t) c.args.link c.args.channel c.args.hour ∙ any_list (λ r. on_cell r c.args.link c.args.channel c.args.hour) t.rows.items no_run)
