use Rattle.std.proofs.Common.{◌≡◌, true, ap, ◌∙◌, arith, rules}
use Rattle.std.specs.Result.{result_ok}
use Rattle.calendar.specs.Meaning.{proper}
use Rattle.calendar.specs.Numbers.{answer_number}
use Rattle.calendar.proofs.Plants.{refused_hold}
use Rattle.calendar.proofs.Gaps.{rows_met, rows_clear}
use Rattle.calendar.proofs.Tabled.{held_answer, full_answer, put_answer, put_kept}
use Rattle.plant.specs.Means.{table_means}
use Rattle.plant.proofs.Tables.{kept}
use Rattle.plant.proofs.timetable.calls.TimetablePlant.hold.Goals as goal

pub returns-then-not-fits : goal.returns-then-not-fits
returns-then-not-fits c = refused_hold (table_means c.args.self.now) c.args.run (search rules)

pub returns-then-free_hours-run : goal.returns-then-free_hours-run
returns-then-free_hours-run c =
    let t = c.args.self.now in
    let r = c.args.run in
    let ok : proper (table_means t) r ≡ true = search rules in
    held_answer t.rows.items t.links t.channels (kept t) r ok (rows_met t.rows.items t.links t.channels r ok (omega (arith, c.free_hours.ensures)))

pub returns-in_err-i : goal.returns-in_err-i
returns-in_err-i c =
    let t = c.args.self.now in
    let r = c.args.run in
    let ok : proper (table_means t) r ≡ true = search rules in
    let free = rows_clear t.rows.items t.links t.channels r ok (omega (arith, c.free_hours.ensures)) in
    let a = full_answer t.rows.items t.links t.channels (kept t) r ok free (rw (c.ok_or.ensures.ok_part ∙ ap result_ok c.in_err-i.was) at c.spare_row.ensures) in
    let e : answer_number c.from_residual.result ≡ 24 = search rules in
    record { answer = e ∙ a.answer; after = a.after }

pub put_row-requires : goal.put_row-requires
put_row-requires c =
    let t = c.args.self.now in
    let r = c.args.run in
    let ok : proper (table_means t) r ≡ true = search rules in
    let free = rows_clear t.rows.items t.links t.channels r ok (omega (arith, c.free_hours.ensures)) in
    let w = rw (c.ok_or.ensures.ok_part ∙ ap result_ok c.in_ok-i.was) at c.spare_row.ensures in
    record { row = w.0; kept = ∣ put_kept t.rows.items t.links t.channels (kept t) r ok free c.in_ok-i.i w.0 w.1 ∣₁ }

pub returns : goal.returns
returns c =
    let t = c.args.self.now in
    let r = c.args.run in
    let ok : proper (table_means t) r ≡ true = search rules in
    let free = rows_clear t.rows.items t.links t.channels r ok (omega (arith, c.free_hours.ensures)) in
    let w = rw (c.ok_or.ensures.ok_part ∙ ap result_ok c.in_ok-i.was) at c.spare_row.ensures in
    let a = put_answer t.rows.items t.links t.channels (kept t) r ok free c.in_ok-i.i w.0 w.1 in
    record { answer = a.answer; after = c.put_row.ensures ∙ a.after }
