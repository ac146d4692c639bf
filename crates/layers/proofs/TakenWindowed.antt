-- What a hold answers, and the first hour that is taken, under windows.
use Rattle.std.proofs.Common.{◌≡◌, ℕ, ◌<◌, ◌≤◌, min, Bool, true, false, cond, ◌&&◌, ◌||◌, ltb, leb, List, Some, None, MatchOption, sym, refl, ap, ◌∙◌, ⊎_elim, arith}
use Rattle.std.proofs.lemmas.Bool.{cases_lt, and_from, and_parts, le-leb, lt-ltb, le-ltb, cond-true, cond-false}
use Rattle.calendar.specs.Week.{later}
use Rattle.calendar.specs.Meaning.{Meaning, inside, is_held, proper, meets, hold_number, after_hold, taken, free_hours, first_taken}
use Rattle.calendar.specs.Layers.{windowed, shut}
use Rattle.calendar.specs.declared.run.Run.{Run}
use Rattle.calendar.specs.declared.run.Window.{Window}
use Rattle.calendar.proofs.Leasts.{least_cong, least_or, least_short, least_any}
use Rattle.calendar.proofs.Plants.{inside_parts, proper_parts}
use Rattle.calendar.proofs.Takens.{taken_at, taken_out, taken_some, taken_none}
use Rattle.calendar.proofs.Windowed.{barred, proper_windowed, hold_through, hold_refused}
use Rattle.layers.specs.Below.{before_window}
use Rattle.layers.proofs.OpenHours.{open_hours, open_most}

-- the first k hours of the run
abbrev pub cut : Run → ℕ → Run
cut r k = record { link = r.link; channel = r.channel; first = r.first; hours = k }

or_last : (a b c : Bool) → ((a || b) || c) ≡ ((a || c) || b)
or_last true b c = refl
or_last false true true = refl
or_last false true false = refl
or_last false false true = refl
or_last false false false = refl

module _ (ws : List Window) (n : ℕ) (m : Meaning) where
  -- a window is in the run's way exactly where the open hours are fewer
  open_barred : (r : Run) → ltb (open_hours ws n r) r.hours ≡ barred ws n m r
  unfolding meets
  open_barred r = least_any r.hours (λ j. shut ws n r.link (later r.first j))

  pub bars_fit : (r : Run) (k : ℕ) → proper m r ≡ true → k ≡ open_hours ws n r → ltb k r.hours ≡ (proper m r && barred ws n m r)
  bars_fit r k h e = ap (λ x. ltb x r.hours) e ∙ open_barred r ∙ ap (λ t. t && barred ws n m r) (sym h)

  pub bars_unfit : (r : Run) → proper m r ≡ false → false ≡ (proper m r && barred ws n m r)
  bars_unfit r h = ap (λ t. t && barred ws n m r) (sym h)

  -- what a hold answers and leaves, by whether a window is in the way of a run that fits
  pub bars_held : (r : Run) (b : Bool) → b ≡ (proper m r && barred ws n m r) → record { held : hold_number (windowed ws n m) r ≡ cond b 22 (hold_number m r); after : after_hold (windowed ws n m) r ≡ windowed ws n (cond b m (after_hold m r)) }
  bars_held r true e =
      let p = and_parts (proper m r) (barred ws n m r) (sym e) in
      let t = hold_refused ws n m r p.0 p.1 in
      record { held = sym t.answer; after = sym t.after }
  bars_held r false e =
      let t = hold_through ws n m r (sym e) (hold_number m r) (after_hold m r) refl refl in
      record { held = sym t.answer; after = sym t.after }

  taken_windowed : (l c h : ℕ) → taken (windowed ws n m) l c h ≡ (taken m l c h || shut ws n l h)
  unfolding is_held windowed
  taken_windowed l c h = or_last (m.closed l c h) (shut ws n l h) (is_held m l c h)

  free_windowed : (r : Run) → free_hours (windowed ws n m) r ≡ min (free_hours m r) (open_hours ws n r)
  unfolding free_hours
  free_windowed r =
      least_cong r.hours (taken_at (windowed ws n m) r) (λ j. taken_at m r j || shut ws n r.link (later r.first j)) (λ j _. taken_windowed r.link r.channel (later r.first j))
      ∙ least_or r.hours (taken_at m r) (λ j. shut ws n r.link (later r.first j))

  free_cut : (r : Run) (k : ℕ) → k ≤ r.hours → free_hours m (cut r k) ≡ min k (free_hours m r)
  unfolding free_hours
  free_cut r k h = least_short k r.hours (taken_at m r) h

  proper_cut : (r : Run) (k : ℕ) → proper m r ≡ true → 0 < k → k ≤ r.hours → proper m (cut r k) ≡ true
  unfolding proper
  proper_cut r k h a b =
      let p = proper_parts m r h in
      and_from (inside m r.link r.channel r.first) (leb 1 k && leb k 168) p.0 (and_from (leb 1 k) (leb k 168) (le-leb 1 k (omega arith)) (le-leb k 168 (omega (arith, b, p.2))))

  pub taken_unfit : (r : Run) → proper m r ≡ false → Some r.first ≡ first_taken (windowed ws n m) r
  taken_unfit r h = taken_out (windowed ws n m) r (proper_windowed ws n m r ∙ h)

  taken_shut : (r : Run) (k : ℕ) → proper m r ≡ true → k ≡ open_hours ws n r → k ≡ 0 → Some r.first ≡ first_taken (windowed ws n m) r
  taken_shut r k h e z =
      let p = proper_parts m r h in
      let i = inside_parts m r.link r.channel r.first p.0 in
      let at : r.first ≡ later r.first 0 = omega (arith, i.4) in
      ap Some at ∙ taken_some (windowed ws n m) r 0 (proper_windowed ws n m r ∙ h) (omega (arith, free_windowed r, e, z)) (omega (arith, p.1))

  module _ (r : Run) (k : ℕ) (h : proper m r ≡ true) (e : k ≡ open_hours ws n r) (some : 0 < k) where
    few : k ≤ r.hours
    few = omega (arith, e, open_most ws n r)

    same : free_hours m (cut r k) ≡ free_hours (windowed ws n m) r
    same = omega (arith, e, free_cut r k few, free_windowed r)

    -- what the plant below finds among the first k hours decides what the layer finds
    first_windowed : first_taken (windowed ws n m) r ≡ before_window r k (first_taken m (cut r k))
    first_windowed =
        let p = proper_cut r k h some few in
        let f = free_hours m (cut r k) in
        let w = proper_windowed ws n m r ∙ h in
        ⊎_elim
        (λ (z : f < k). sym (taken_some (windowed ws n m) r f w same (omega (arith, z, few))) ∙ ap (before_window r k) (taken_some m (cut r k) f p refl z))
        (λ (z : k ≤ f).
        let e' : k ≡ free_hours (windowed ws n m) r = omega (arith, z, same, free_cut r k few) in
        ⊎_elim
        (λ (y : k < r.hours). sym (taken_some (windowed ws n m) r k w e' y) ∙ sym (cond-true (ltb k r.hours) _ _ (lt-ltb k r.hours y)))
        (λ (y : r.hours ≤ k). sym (taken_none (windowed ws n m) r k w e' y) ∙ sym (cond-false (ltb k r.hours) _ _ (le-ltb k r.hours y)))
        (cases_lt k r.hours)
        ∙ ap (before_window r k) (taken_none m (cut r k) f p refl z))
        (cases_lt f k)

  -- the first part of the run, where it is free from the start
  pub part_stands : (r : Run) (k : ℕ) → proper m r ≡ true → k ≡ open_hours ws n r → MatchOption (cond (ltb 0 k) (Some (cut r k)) None) (first_taken (windowed ws n m) r ≡ Some r.first) (λ s. first_taken (windowed ws n m) r ≡ before_window r s.hours (first_taken m s))
  part_stands r k h e =
      ⊎_elim
      (λ (l : 0 < k). rw (lt-ltb 0 k l) (first_windowed r k h e l))
      (λ (l : k ≤ 0). rw (le-ltb 0 k l) (sym (taken_shut r k h e (omega (arith, l)))))
      (cases_lt 0 k)
