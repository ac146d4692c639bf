-- The tie, kept by every call.
use Rattle.std.proofs.Common.{◌≡◌, ℕ, ◌+◌, Bool, true, false, not, ◌&&◌, ltb, leb, List, [], ◌∷◌, ◌++◌, is_some, Some, None, vec_len, sum_by, Option, sym, refl, ap, ◌∙◌, subst, ⊎_elim, arith}
use Rattle.std.proofs.lemmas.Bool.{cases_Bool, and_parts, and_from, not-false}
use Rattle.calendar.specs.Meaning.{Meaning, Sound, taken}
use Rattle.network.specs.Costs.{Laws}
use Rattle.network.specs.Paths.{crossing, is_path, when_there}
use Rattle.network.specs.declared.network.Network.{Network}
use Rattle.ways.specs.Hours.{block_fits}
use Rattle.ways.specs.Ways.{every_link}
use Rattle.ways.specs.declared.way.Way.{Way}
use Rattle.orders.specs.Book.{stands, pick, strike, at_hour, moved}
use Rattle.orders.specs.Calls.{Rules, stands_so, order_of, along, given, way_for, width_fits, book_answer, answer, was_accepted, effect, fed, plant_after, orders_after}
use Rattle.orders.specs.Lists.{taken_then}
use Rattle.orders.specs.Runs.{first_fault, own_cells, hold_all, release_all}
use Rattle.orders.specs.Standing.{Standing, num, takes, in_cell}
use Rattle.orders.specs.declared.call.Call.{Call}
use Rattle.orders.specs.declared.call.Call.TheVariants.{Book, Place, Cancel, Shift}
use Rattle.orders.specs.declared.refusal.Refusal.TheVariants.{BadHours, NotStanding}
use Rattle.orders.proofs.Checks.{Takeable, passed, clear, placed, booked, no_refusal}
use Rattle.orders.proofs.Counts.{taken_now}
use Rattle.orders.proofs.Firsts.{some_fault}
use Rattle.orders.proofs.Loops.{released, room_left, held}
use Rattle.orders.proofs.Masks.{with_live}
use Rattle.orders.proofs.Sums.{sum_push, sum_strike, sum_moved}
use Rattle.orders.proofs.Tied.{with_order, blocked, taken_but, fit, Fit, Tied}
use Rattle.orders.proofs.Ties.{fit_parts, fit_of, alive, tie_out, taken_out, tie_in}

-- an order put in
taken_keeps : (net : Network) (s m : Meaning) (es : List Standing) (e : Standing) → Tied net s m es → Takeable net m e → Tied net s (hold_all m e) (es ++ (e ∷ []))
taken_keeps net s m es e t p =
    let same : fit net m.links m.channels e ≡ fit net s.links s.channels e = ap (λ L. fit net L m.channels e) t.links ∙ ap (λ C. fit net s.links C e) t.channels in
    subst (λ x. Tied net s x (es ++ (e ∷ []))) (sym (held net m e (fit_parts net m.links m.channels e p.fits) p.free p.room))
    (tie_in net s m es (es ++ (e ∷ [])) e t (λ g. sum_push g es e) (sym same ∙ p.fits) p.free)

fit_hour : (net : Network) (L C f : ℕ) (e : Standing) → fit net L C e ≡ true → ltb f 168 ≡ true → fit net L C (at_hour f e) ≡ true
unfolding fit
fit_hour net L C f e t h =
    let W = width_fits e.order.width in
    let H = leb 1 e.order.hours && leb e.order.hours 168 in
    let N = leb (vec_len net.links) L in
    let P = is_path (crossing net every_link) net.hops e.order.from e.order.to e.path && block_fits C e.channel e.order.width in
    let a = and_parts (N && (W && (ltb e.order.first 168 && H))) P t in
    let b = and_parts N (W && (ltb e.order.first 168 && H)) a.0 in
    let d = and_parts W (ltb e.order.first 168 && H) b.1 in
    let i = and_parts (ltb e.order.first 168) H d.1 in
    and_from (N && (W && (ltb f 168 && H))) P (and_from N (W && (ltb f 168 && H)) b.0 (and_from W (ltb f 168 && H) d.0 (and_from (ltb f 168) H h i.1))) a.1

-- a standing order taken out, or moved
module _ (net : Network) (s m : Meaning) (so : Sound m) (es : List Standing) (n : ℕ) (t : Tied net s m es) (st : stands n es ≡ true) where
  own : Standing
  own = pick n es

  parts : (g : Standing → ℕ) → sum_by g es ≡ g (pick n es) + sum_by g (strike n es)
  parts g = sum_strike g n es st

  own_fits : fit net s.links s.channels (pick n es) ≡ true
  own_fits = fit_of (fit net s.links s.channels (pick n es)) (omega (arith, t.fits, parts (λ x. num (not (fit net s.links s.channels x)))))

  same_fits : (e : Standing) → fit net m.links m.channels e ≡ fit net s.links s.channels e
  same_fits e = ap (λ L. fit net L m.channels e) t.links ∙ ap (λ C. fit net s.links C e) t.channels

  own_parts : Fit net m.links m.channels (pick n es)
  own_parts = fit_parts net m.links m.channels (pick n es) (same_fits (pick n es) ∙ own_fits)

  lives : (l c : ℕ) → takes (pick n es) l c ≡ true → m.live l c (pick n es).order.first ≡ (pick n es).order.hours
  lives = alive net s m es (strike n es) (pick n es) t parts

  out : Tied net s (with_order m (pick n es) 0) (strike n es)
  out = tie_out net s m es (strike n es) (pick n es) t parts so

  gone : release_all m (pick n es) ≡ with_order m (pick n es) 0
  gone = released net m (pick n es) own_parts lives

  cancel_keeps : Tied net s (release_all m (pick n es)) (strike n es)
  cancel_keeps = subst (λ x. Tied net s x (strike n es)) (sym gone) out

  shift_keeps : (f : ℕ) → ltb f 168 ≡ true → blocked (taken_but m (in_cell (pick n es))) (at_hour f (pick n es)) ≡ false → Tied net s (hold_all (release_all m (pick n es)) (at_hour f (pick n es))) (moved n f es)
  unfolding with_live
  shift_keeps f h b =
      let e = pick n es in
      let o = at_hour f e in
      let left = with_order m e 0 in
      let ok = fit_hour net s.links s.channels f e own_fits h in
      let free : blocked (taken left) o ≡ false = ap (λ p. blocked p o) (taken_out net s m es (strike n es) e t parts so) ∙ b in
      subst (λ x. Tied net s x (moved n f es))
      (sym (ap (λ x. hold_all x o) gone ∙ held net left o (fit_parts net m.links m.channels o (same_fits o ∙ ok)) free (room_left net m e own_parts so lives)))
      (tie_in net s left (strike n es) (moved n f es) o out (λ g. sum_moved g n f es st) ok free)

module _ {C : Type 0} (g : Rules C) (laws : Laws g.kind) (s m : Meaning) (so : Sound m) (es : List Standing) (t : Tied g.net s m es) where
  found_keeps : (o : Option Way) (r : _) → way_for g (taken m) m.channels (order_of r) ≡ o → was_accepted (book_answer g m es r) ≡ true → Tied g.net s (when_there o m (λ w. hold_all m (along (order_of r) w))) (when_there o es (λ w. es ++ (along (order_of r) w ∷ [])))
  found_keeps None r found ok = t
  found_keeps (Some w) r found ok = taken_keeps g.net s m es (along (order_of r) w) t (booked g laws m es r w found ok).0

  accepted_keeps : (c : Call) → was_accepted (answer g m es c) ≡ true → Tied g.net s (effect g m es c) (fed g (taken m) m.channels es c true)
  accepted_keeps (Book r) ok = found_keeps (way_for g (taken m) m.channels (order_of r)) r refl ok
  accepted_keeps (Place r a p) ok = taken_keeps g.net s m es (along (order_of r) (given a p)) t (placed g m es r a p ok).0
  accepted_keeps (Cancel n) ok =
      cancel_keeps g.net s m so es n t (⊎_elim (λ h. h) (λ (h : stands n es ≡ false). absurd (no_refusal NotStanding (rw h at ok))) (cases_Bool (stands n es)))
  accepted_keeps (Shift n f) ok =
      let e = pick n es in
      let a = passed (not (stands n es)) NotStanding _ ok in
      let b = passed (not (ltb f 168)) BadHours _ a.1 in
      let c = clear (first_fault m (own_cells (Some e)) (at_hour f e)) (stands_so (at_hour f e)) b.1 in
      shift_keeps g.net s m so es n t (not-false (stands n es) a.0) f (not-false (ltb f 168) b.0) (sym (some_fault m (in_cell e) (at_hour f e)) ∙ ap is_some c.0)

  refused_same : (c : Call) → fed g (taken m) m.channels es c false ≡ es
  refused_same (Book r) = refl
  refused_same (Place r a p) = refl
  refused_same (Cancel n) = refl
  refused_same (Shift n f) = refl

  -- every call keeps the tie
  pub keeps : (c : Call) → Tied g.net s (plant_after g m es c) (orders_after g m es c)
  keeps c = ⊎_elim
      (λ (h : was_accepted (answer g m es c) ≡ true). rw h (accepted_keeps c h))
      (λ (h : was_accepted (answer g m es c) ≡ false). rw (h, refused_same c) t)
      (cases_Bool (was_accepted (answer g m es c)))

  -- the list is fed what the search names from the start and the list itself
  pub fed_now : (c : Call) (ok : Bool) → fed g (taken m) m.channels es c ok ≡ fed g (taken_then s es) s.channels es c ok
  fed_now c ok = ap (λ x. fed g x m.channels es c ok) (taken_now g.net s m es t) ∙ ap (λ n. fed g (taken_then s es) n es c ok) t.channels

-- an unused book
pub tied_none : (net : Network) (s : Meaning) → Tied net s s []
tied_none net s = record { links = refl; channels = refl; limit = refl; closed = refl; fits = refl; live = λ l c f. omega arith; held = λ l c h. omega arith; shut = λ l c h _. refl }
