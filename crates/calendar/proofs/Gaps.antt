-- How many hours of a run come before one that a row covers.
use Rattle.std.proofs.Common.{◌≡◌, ℕ, ◌<◌, ◌≤◌, min, Bool, true, false, cond, ◌&&◌, ◌||◌, eqb, ltb, List, length, get_or, sym, refl, ap, ◌∙◌, arith}
use Rattle.calendar.specs.Week.{any, least, later, covers, until}
use Rattle.calendar.specs.Meaning.{Meaning, is_held, proper, meets, free_hours}
use Rattle.calendar.specs.Rows.{Kept, no_run, on_cell, tabled}
use Rattle.calendar.specs.declared.run.Run.{Run}
use Rattle.std.proofs.lemmas.Bool.{lt-ltb, le-ltb}
use Rattle.calendar.proofs.Sums.{any_none, any_or}
use Rattle.calendar.proofs.Leasts.{least_cong, least_none, least_any}
use Rattle.calendar.proofs.Circle.{until_within}
use Rattle.calendar.proofs.Tabled.{held_rows, never_closed}

-- the row covers hour j of the run
abbrev pub row_on : Run → Run → ℕ → Bool
row_on row r j = on_cell row r.link r.channel (later r.first j)

-- one of the first i rows covers hour j of the run
abbrev pub rows_on : List Run → ℕ → Run → ℕ → Bool
rows_on rows i r j = any i (λ k. row_on (get_or rows k no_run) r j)

-- how many hours of the run come before one that the row covers
pub row_free : (row r : Run) → r.hours ≤ 168 → cond (eqb r.link row.link && eqb r.channel row.channel) (min (until row.first row.hours r.first) r.hours) r.hours ≡ least r.hours (row_on row r)
row_free row r h = case (eqb r.link row.link && eqb r.channel row.channel) where
  case : (t : Bool) → cond t (min (until row.first row.hours r.first) r.hours) r.hours ≡ least r.hours (λ j. t && covers row.first row.hours (later r.first j))
  case true = omega (arith, until_within r.hours row.first row.hours r.first h)
  case false = sym (least_none r.hours (λ j. false) (λ j _. refl))

-- the free hours of a run in a timetable, by its rows
pub rows_free : (rows : List Run) (ls cs : ℕ) → Kept rows ls cs → (r : Run) → proper (tabled rows ls cs) r ≡ true → least r.hours (rows_on rows (length rows) r) ≡ free_hours (tabled rows ls cs) r
unfolding free_hours meets
rows_free rows ls cs k r ok =
    least_cong r.hours (rows_on rows (length rows) r) _ (λ j h.
    sym (held_rows rows ls cs k r.link r.channel (later r.first j))
    ∙ ap (λ x. x || is_held (tabled rows ls cs) r.link r.channel (later r.first j)) (sym (any_none r.hours (λ i. (tabled rows ls cs).closed r.link r.channel (later r.first i)) (never_closed rows ls cs r ok) j h)))

-- in a plant where no cell of the run is closed, a cell of it is held exactly where it is not free all its hours
pub free_meets : (m : Meaning) (r : Run) → meets m.closed r ≡ false → ltb (free_hours m r) r.hours ≡ meets (is_held m) r
unfolding free_hours meets
free_meets m r none =
    let C : ℕ → Bool = λ j. m.closed r.link r.channel (later r.first j) in
    let T : ℕ → Bool = λ j. is_held m r.link r.channel (later r.first j) in
    least_any r.hours (λ j. C j || T j) ∙ any_or r.hours C T ∙ ap (λ x. x || any r.hours T) none

module _ (rows : List Run) (ls cs : ℕ) (r : Run) (ok : proper (tabled rows ls cs) r ≡ true) where
  pub rows_met : free_hours (tabled rows ls cs) r < r.hours → meets (is_held (tabled rows ls cs)) r ≡ true
  rows_met h = sym (free_meets (tabled rows ls cs) r (never_closed rows ls cs r ok)) ∙ lt-ltb (free_hours (tabled rows ls cs) r) r.hours h

  pub rows_clear : r.hours ≤ free_hours (tabled rows ls cs) r → meets (is_held (tabled rows ls cs)) r ≡ false
  rows_clear h = sym (free_meets (tabled rows ls cs) r (never_closed rows ls cs r ok)) ∙ le-ltb (free_hours (tabled rows ls cs) r) r.hours h
