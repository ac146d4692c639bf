use Rattle.std.proofs.Common.{◌≡◌, true, set, sym, ap, ◌∙◌, subst, rules}
use Rattle.std.specs.Result.{result_ok}
use Rattle.calendar.specs.Meaning.{proper}
use Rattle.calendar.specs.Rows.{Kept, no_run, tabled}
use Rattle.calendar.specs.Numbers.{answer_number}
use Rattle.calendar.proofs.Plants.{refused_release}
use Rattle.calendar.proofs.Tabled.{cut_answer, lost_answer, release_kept}
use Rattle.plant.specs.Means.{table_means}
use Rattle.plant.proofs.Tables.{kept}
use Rattle.plant.proofs.timetable.calls.TimetablePlant.release.Goals as goal

pub returns-then-not-fits : goal.returns-then-not-fits
returns-then-not-fits c = refused_release (table_means c.args.self.now) c.args.run (search rules)

pub returns-in_err-i : goal.returns-in_err-i
returns-in_err-i c =
    let t = c.args.self.now in
    let r = c.args.run in
    let ok : proper (table_means t) r ≡ true = search rules in
    let a = lost_answer t.rows.items t.links t.channels (kept t) r ok (rw (c.ok_or.ensures.ok_part ∙ ap result_ok c.in_err-i.was) at c.row_of.ensures) in
    let e : answer_number c.from_residual.result ≡ 25 = search rules in
    record { answer = e ∙ a.answer; after = a.after }

pub put_row-requires : goal.put_row-requires
put_row-requires c =
    let t = c.args.self.now in
    let r = c.args.run in
    let ok : proper (table_means t) r ≡ true = search rules in
    let w = rw (c.ok_or.ensures.ok_part ∙ ap result_ok c.in_ok-i.was) at c.row_of.ensures in
    let e : c.default.result ≡ no_run = search rules in
    let new = release_kept t.rows.items t.links t.channels (kept t) c.in_ok-i.i w.0 r ok w.1 in
    record { row = w.0; kept = ∣ subst (λ x. Kept (set t.rows.items c.in_ok-i.i x) t.links t.channels) (sym e) new ∣₁ }

pub returns : goal.returns
returns c =
    let t = c.args.self.now in
    let r = c.args.run in
    let ok : proper (table_means t) r ≡ true = search rules in
    let w = rw (c.ok_or.ensures.ok_part ∙ ap result_ok c.in_ok-i.was) at c.row_of.ensures in
    let e : c.default.result ≡ no_run = search rules in
    let a = cut_answer t.rows.items t.links t.channels (kept t) r ok c.in_ok-i.i w.0 w.1 in
    record { answer = a.answer; after = c.put_row.ensures ∙ ap (λ x. tabled (set t.rows.items c.in_ok-i.i x) t.links t.channels) e ∙ a.after }
