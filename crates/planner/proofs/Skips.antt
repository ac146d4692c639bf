-- A run that is free has no cell at fault.
use Rattle.std.proofs.Common.{◌≡◌, ℕ, zero, suc, ◌<◌, Bool, true, false, cond, ltb, is_some, Some, None, Option, sym, refl, ap, ◌∙◌, ⊎_elim, arith}
use Rattle.std.proofs.lemmas.Bool.{cases_Bool, both_ways, or_parts}
use Rattle.calendar.specs.Week.{any, later}
use Rattle.calendar.specs.Meaning.{Meaning, is_held, proper, free_hours, first_taken}
use Rattle.calendar.specs.declared.run.Run.{Run}
use Rattle.calendar.proofs.Leasts.{least_any}
use Rattle.calendar.proofs.Sums.{any_none}
use Rattle.calendar.proofs.Takens.{taken_at, taken_in, taken_out}
use Rattle.orders.specs.Runs.{run_of, cell_fault, first_below, run_fault}
use Rattle.orders.specs.Standing.{Standing}
use Rattle.orders.specs.declared.refusal.Refusal.{Refusal}

some_at : (b : Bool) (x : ℕ) → is_some (cond b (Some x) None) ≡ b
some_at true x = refl
some_at false x = refl

none_taken : (m : Meaning) (r : Run) → is_some (first_taken m r) ≡ false → any r.hours (taken_at m r) ≡ false
unfolding free_hours
none_taken m r h = ⊎_elim
    (λ (e : proper m r ≡ true). sym (least_any r.hours (taken_at m r)) ∙ sym (some_at (ltb (free_hours m r) r.hours) (later r.first (free_hours m r))) ∙ ap is_some (taken_in m r e) ∙ h)
    (λ (e : proper m r ≡ false). absurd (both_ways (is_some (first_taken m r)) h (sym (ap is_some (taken_out m r e)))))
    (cases_Bool (proper m r))

first_none : (t : ℕ → Option Refusal) (n : ℕ) → ((j : ℕ) → j < n → t j ≡ None) → first_below t n ≡ None
unfolding first_below
first_none t zero h = refl
first_none t (suc n) h = rw (first_none t n (λ j l. h j (omega (arith, l)))) (h n (omega arith))

no_fault : (m : Meaning) (own : ℕ → ℕ → ℕ → Bool) (l c h : ℕ) → m.closed l c h ≡ false → is_held m l c h ≡ false → cell_fault m own l c h ≡ None
no_fault m own l c h a b = rw (a, b) refl

pub free_run : (m : Meaning) (own : ℕ → ℕ → ℕ → Bool) (e : Standing) (l c : ℕ) → is_some (first_taken m (run_of e l c)) ≡ false → run_fault m own e l c e.order.hours ≡ None
free_run m own e l c h =
    let r = run_of e l c in
    first_none (λ j. cell_fault m own l c (later e.order.first j)) e.order.hours (λ j lt.
    let p = or_parts (m.closed l c (later e.order.first j)) (is_held m l c (later e.order.first j)) (any_none e.order.hours (taken_at m r) (none_taken m r h) j lt) in
    no_fault m own l c (later e.order.first j) p.0 p.1)
