use Rattle.std.proofs.Common.{sym, refl, ◌∙◌, arith, rules}
use Rattle.std.proofs.lemmas.Bool.{le-leb, lt-leb}
use Rattle.calendar.proofs.Made.{fit_kept, table_sizes, table_memory, table_made, empty_open}
use Rattle.plant.proofs.timetable.Timetable.new.Goals as goal

pub returns-then-not-sizes_fit : goal.returns-then-not-sizes_fit
returns-then-not-sizes_fit c = (table_sizes c.args.links c.args.channels c.args.rows.len (search rules), refl)

pub returns-then-len-gt4096 : goal.returns-then-len-gt4096
returns-then-len-gt4096 c = (table_memory c.args.links c.args.channels c.args.rows.len (search rules) (lt-leb c.args.rows.len 4096 (omega arith)), refl)

pub invariant_of-result : goal.invariant_of-result
invariant_of-result c =
    record { few = search rules; kept = ∣ fit_kept c.clear_rows.new.rows.items c.args.links c.args.channels (search rules) c.clear_rows.ensures.empty ∣₁ }

pub returns : goal.returns
returns c = (
  table_made c.args.links c.args.channels c.args.rows.len (search rules) (le-leb c.args.rows.len 4096 (omega arith)),
  empty_open c.clear_rows.new.rows.items c.args.links c.args.channels c.args.rows.len (sym c.clear_rows.new.rows.ok.0 ∙ c.clear_rows.ensures.len) c.clear_rows.ensures.empty,
)
