-- The first hour of a run that is not free.
use Rattle.std.proofs.Common.{◌≡◌, ℕ, ◌<◌, ◌≤◌, Bool, true, false, ltb, Some, None, sym, ap, ◌∙◌, arith}
use Rattle.std.proofs.lemmas.Bool.{lt-ltb, le-ltb, cond-true, cond-false}
use Rattle.calendar.specs.Week.{any, later}
use Rattle.calendar.specs.Meaning.{Meaning, proper, taken, hour_at, free_hours, first_taken}
use Rattle.calendar.specs.declared.run.Run.{Run}
use Rattle.calendar.proofs.Sums.{any_done}
use Rattle.calendar.proofs.Leasts.{least_found, least_missed}

-- the run's hour j is not free
abbrev pub taken_at : Meaning → Run → ℕ → Bool
taken_at m r j = taken m r.link r.channel (later r.first j)

-- by the number of its free hours
pub taken_out : (m : Meaning) (r : Run) → proper m r ≡ false → Some r.first ≡ first_taken m r
unfolding first_taken
taken_out m r e = sym (cond-false (proper m r) _ _ e)

pub taken_in : (m : Meaning) (r : Run) → proper m r ≡ true → hour_at r (free_hours m r) ≡ first_taken m r
unfolding first_taken
taken_in m r e = sym (cond-true (proper m r) _ _ e)

pub taken_some : (m : Meaning) (r : Run) (k : ℕ) → proper m r ≡ true → k ≡ free_hours m r → k < r.hours → Some (later r.first k) ≡ first_taken m r
unfolding first_taken
taken_some m r k e q h =
    let z : free_hours m r < r.hours = omega (arith, q, h) in
    ap (λ x. Some (later r.first x)) q
    ∙ sym (cond-true (proper m r) _ _ e ∙ cond-true (ltb (free_hours m r) r.hours) _ _ (lt-ltb (free_hours m r) r.hours z))

pub taken_none : (m : Meaning) (r : Run) (k : ℕ) → proper m r ≡ true → k ≡ free_hours m r → r.hours ≤ k → None ≡ first_taken m r
unfolding first_taken
taken_none m r k e q h =
    let z : r.hours ≤ free_hours m r = omega (arith, q, h) in
    sym (cond-true (proper m r) _ _ e ∙ cond-false (ltb (free_hours m r) r.hours) _ _ (le-ltb (free_hours m r) r.hours z))

-- a loop over the hours of the run
pub taken_found : (m : Meaning) (r : Run) (i : ℕ) → proper m r ≡ true → i < r.hours → any i (taken_at m r) ≡ false → taken_at m r i ≡ true → Some (later r.first i) ≡ first_taken m r
unfolding free_hours
taken_found m r i e h none t = taken_some m r i e (sym (least_found r.hours (taken_at m r) i h none t)) h

pub taken_missed : (m : Meaning) (r : Run) (i : ℕ) → proper m r ≡ true → any i (taken_at m r) ≡ false → i ≤ r.hours → r.hours ≤ i → None ≡ first_taken m r
unfolding free_hours
taken_missed m r i e none a b = taken_none m r r.hours e (sym (least_missed r.hours (taken_at m r) (sym (any_done r.hours (taken_at m r) i none a b)))) (omega arith)
