-- What a plant's answer says of a run.
use Rattle.std.proofs.Common.{◌≡◌, ℕ, Bool, true, false, cond, not, ◌&&◌, ltb, leb, is_some, Some, None, sym, refl, ap, ◌∙◌, ⊎_elim, arith}
use Rattle.std.proofs.lemmas.Bool.{cases_Bool, both_ways, and_parts, and_from, or_left, leb-true, ltb-true}
use Rattle.calendar.specs.Week.{any, later}
use Rattle.calendar.specs.Meaning.{Meaning, Sound, inside, proper, taken, free_hours, first_taken}
use Rattle.calendar.specs.declared.run.Run.{Run}
use Rattle.calendar.proofs.Sums.{any_intro}
use Rattle.calendar.proofs.Leasts.{least_any}
use Rattle.calendar.proofs.Takens.{taken_at, taken_in, taken_out}
use Rattle.ways.specs.Hours.{hours_fit, run_free}
use Rattle.ways.specs.declared.order.Order.{Order}

-- the run of an order on a channel of a link
abbrev pub run_of : Order → ℕ → ℕ → Run
run_of o l c = record { link = l; channel = c; first = o.first; hours = o.hours }

some_at : (b : Bool) (x : ℕ) → is_some (cond b (Some x) None) ≡ b
some_at true x = refl
some_at false x = refl

module _ (m : Meaning) (s : Sound m) (o : Order) (l c : ℕ) (fit : hours_fit o ≡ true) where
  inside_proper : inside m l c o.first ≡ true → proper m (run_of o l c) ≡ true
  unfolding proper
  inside_proper h = and_from (inside m l c o.first) (leb 1 o.hours && leb o.hours 168) h (and_parts (ltb o.first 168) (leb 1 o.hours && leb o.hours 168) fit).1

  -- a run outside the plant is closed from its first hour on
  outside_taken : proper m (run_of o l c) ≡ false → any o.hours (taken_at m (run_of o l c)) ≡ true
  outside_taken e =
      let p = and_parts (ltb o.first 168) (leb 1 o.hours && leb o.hours 168) fit in
      let some = leb-true 1 o.hours (and_parts (leb 1 o.hours) (leb o.hours 168) p.1).0 in
      let week = ltb-true o.first 168 p.0 in
      let z : later o.first 0 ≡ o.first = omega (arith, week) in
      let shut : m.closed l c o.first ≡ true = ⊎_elim (λ t. t) (λ t. absurd (both_ways (proper m (run_of o l c)) e (inside_proper (s.open_inside l c o.first t)))) (cases_Bool (m.closed l c o.first)) in
      any_intro o.hours (taken_at m (run_of o l c)) 0 (omega (arith, some)) (ap (taken m l c) z ∙ or_left (m.closed l c o.first) _ shut)

  pub asked : not (is_some (first_taken m (run_of o l c))) ≡ run_free (taken m) o l c
  unfolding run_free free_hours
  asked =
      let r = run_of o l c in
      ⊎_elim
      (λ (e : proper m r ≡ true). ap (λ x. not (is_some x)) (sym (taken_in m r e)) ∙ ap not (some_at (ltb (free_hours m r) o.hours) (later o.first (free_hours m r)) ∙ least_any o.hours (taken_at m r)))
      (λ (e : proper m r ≡ false). ap (λ x. not (is_some x)) (sym (taken_out m r e)) ∙ ap not (sym (outside_taken e)))
      (cases_Bool (proper m r))

pub turned : (a b : Bool) → a ≡ not b → b ≡ not a
turned true true e = e
turned true false e = refl
turned false true e = refl
turned false false e = e
