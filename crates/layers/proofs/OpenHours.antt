-- How many hours of a run come before the first that a window shuts.
use Rattle.std.proofs.Common.{◌≡◌, ℕ, ◌≤◌, min, Bool, true, false, cond, ◌&&◌, eqb, List, length, take, sym, refl}
use Rattle.std.specs.List.{fold}
use Rattle.calendar.specs.Week.{least, later, covers, until}
use Rattle.calendar.specs.Layers.{shut, shuts, nowhere}
use Rattle.calendar.specs.declared.run.Run.{Run}
use Rattle.calendar.specs.declared.run.Window.{Window}
use Rattle.calendar.proofs.Leasts.{least_law, least_none}
use Rattle.calendar.proofs.Circle.{until_within}
use Rattle.layers.proofs.Fronts.{least_front}

-- how many hours of the run come before the first that one of the first n windows shuts
abbrev pub open_hours : List Window → ℕ → Run → ℕ
open_hours ws n r = least r.hours (λ j. shut ws n r.link (later r.first j))

pub open_most : (ws : List Window) (n : ℕ) (r : Run) → open_hours ws n r ≤ r.hours
open_most ws n r = (least_law r.hours (λ j. shut ws n r.link (later r.first j))).most

-- how many hours of the run come before the first that the window shuts
before_shut : (w : Window) (r : Run) → r.hours ≤ 168 → least r.hours (λ j. shuts w r.link (later r.first j)) ≡ cond (eqb w.link r.link) (min r.hours (until w.first w.hours r.first)) r.hours
unfolding shuts
before_shut w r h = case (eqb w.link r.link) where
  case : (t : Bool) → least r.hours (λ j. t && covers w.first w.hours (later r.first j)) ≡ cond t (min r.hours (until w.first w.hours r.first)) r.hours
  case true = until_within r.hours w.first w.hours r.first h
  case false = least_none r.hours (λ j. false) (λ j _. refl)

-- the windows in use, one by one
pub open_front : (ws : List Window) (n : ℕ) (r : Run) → n ≤ length ws → r.hours ≤ 168 → fold (λ b w. min (cond (eqb w.link r.link) (min r.hours (until w.first w.hours r.first)) r.hours) b) r.hours (take n ws) ≡ open_hours ws n r
unfolding shut
open_front ws n r l h = least_front ws n nowhere l r.hours _ (λ w j. shuts w r.link (later r.first j)) (λ w. sym (before_shut w r h))
