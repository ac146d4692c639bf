use Rattle.std.proofs.Common.{sym, ◌∙◌}
use Rattle.calendar.proofs.Tabled.{rows_room}
use Rattle.plant.proofs.Tables.{kept}
use Rattle.plant.proofs.Lists.{spare_list}
use Rattle.plant.proofs.timetable.calls.TimetablePlant.room.Goals as goal

pub returns : goal.returns
returns c = let t = c.args.self.now in
    c.spare_rows.ensures ∙ spare_list t.rows.items ∙ sym (rows_room t.rows.items t.links t.channels (kept t))
