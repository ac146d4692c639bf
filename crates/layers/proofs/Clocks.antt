-- What stands below a clock for an hour and for a run.
use Rattle.std.proofs.Common.{◌≡◌, ℕ, ◌<◌, ◌≤◌, cond, ltb, Some, None, MatchOption, sym, ⊎_elim}
use Rattle.std.proofs.lemmas.Bool.{cases_lt, lt-ltb, le-ltb}
use Rattle.calendar.specs.Week.{later}
use Rattle.calendar.specs.Meaning.{Meaning, first_taken}
use Rattle.calendar.specs.Layers.{clocked, moved}
use Rattle.calendar.specs.declared.run.Run.{Run}
use Rattle.calendar.proofs.Plants.{held_late, improper_first}
use Rattle.calendar.proofs.Clocked.{closed_clocked, closed_late, held_clocked, hold_clocked, after_hold_clocked, release_clocked, after_release_clocked}
use Rattle.layers.specs.Below.{HourStands, NoHour, RunStands, OutOfRange, unmoved}
use Rattle.layers.proofs.OutOfRange.{out_of_range}
use Rattle.layers.proofs.TakenClocked.{first_clocked}

module _ (o : ℕ) (small : o < 168) (m : Meaning) where
  pub hour_stands : (h : ℕ) → MatchOption (cond (ltb h 168) (Some (later h o)) None) (NoHour (clocked o m) h) (λ k. HourStands (clocked o) m h k)
  hour_stands h =
      ⊎_elim
      (λ (l : h < 168). rw (lt-ltb h 168 l) (record { closed = λ x c. closed_clocked o small m x c h l; held = λ x c. held_clocked o small m x c h l }))
      (λ (l : 168 ≤ h). rw (le-ltb h 168 l) (record { closed = λ x c. sym (closed_late o small m x c h l); held = λ x c. held_late (clocked o m) x c h l }))
      (cases_lt h 168)

  pub run_stands : (r : Run) → MatchOption (cond (ltb r.first 168) (Some (moved o r)) None) (OutOfRange (clocked o m) r) (λ s. RunStands (clocked o) m r s × (first_taken (clocked o m) r ≡ unmoved o (first_taken m s)))
  run_stands r =
      ⊎_elim
      (λ (l : r.first < 168). rw (lt-ltb r.first 168 l) (record { held = hold_clocked o small m r l; after_held = after_hold_clocked o small m r l; released = release_clocked o small m r l; after_released = after_release_clocked o small m r l }, first_clocked o small m r l))
      (λ (l : 168 ≤ r.first). rw (le-ltb r.first 168 l) (out_of_range (clocked o m) r (improper_first (clocked o m) r l)))
      (cases_lt r.first 168)
