-- The row of a number, by its place.
use Rattle.std.proofs.Common.{◌≡◌, ℕ, zero, suc, ◌<◌, ◌≤◌, Bool, true, false, eqb, List, [], ◌∷◌, length, get_or, set, Some, None, Option, MatchOption, sym, refl, ap, ◌∙◌, ⊎_elim, arith}
use Rattle.std.specs.List.{remove, position, position_or_len}
use Rattle.std.proofs.lemmas.List.{get_or-map}
use Rattle.std.proofs.lemmas.List.Quantifiers.{position-Some}
use Rattle.std.proofs.lemmas.Bool.{cases_Bool, eqb-true}
use Rattle.std.proofs.lemmas.Bool.Decides.{nat_tests}
use Rattle.orders.specs.Book.{nobody, at_hour, stands, pick, strike, moved, Found}
use Rattle.orders.specs.Standing.{Standing, stood, all_stood}
use Rattle.orders.specs.declared.row.Row.{Row}
use Rattle.orders.proofs.Rows.{row_at, stood_length}

-- i is the place of the first order of number n
record PlaceOf (n : ℕ) (es : List Standing) (i : ℕ) : Type 0 where
  pub found : stands n es ≡ true
  pub same : (pick n es).order.number ≡ n
  pub row : get_or es i nobody ≡ pick n es
  pub gone : remove es i ≡ strike n es
  pub hour : (f : ℕ) → set es i (at_hour f (pick n es)) ≡ moved n f es

row_first : (n : ℕ) (es : List Standing) (i : ℕ) → i < length es → ((k : ℕ) → k < i → eqb (get_or es k nobody).order.number n ≡ false) → eqb (get_or es i nobody).order.number n ≡ true → PlaceOf n es i
unfolding stands pick strike moved
row_first n [] i l before t = absurd (omega arith)
row_first n (r ∷ rs) zero l before t = record { found = rw t; same = rw t (eqb-true r.order.number n t); row = rw t; gone = rw t; hour = λ f. rw t }
row_first n (r ∷ rs) (suc i) l before t =
    let o = before 0 (omega arith) in
    let R = row_first n rs i (omega arith) (λ k h. before (suc k) (omega arith)) t in
    record { found = rw o R.found; same = rw o R.same; row = rw o R.row; gone = rw o (ap (λ x. r ∷ x) R.gone); hour = λ f. rw o (ap (λ x. r ∷ x) (R.hour f)) }

abbrev is_number : ℕ → Row → Bool
is_number n r = eqb r.order.number n

found_at : (n : ℕ) (rows : List Row) (i : ℕ) → position (is_number n) rows ≡ Some i → Found n rows i
found_at n [] i e = cc
found_at n (r ∷ rs) i e =
    let q = position-Some (is_number n) (r ∷ rs) i r e in
    let stood_at : (k : ℕ) → k < length (r ∷ rs) → get_or (all_stood (r ∷ rs)) k nobody ≡ stood (get_or (r ∷ rs) k r) = λ k l. get_or-map stood (r ∷ rs) k r nobody l in
    let p = row_first n (all_stood (r ∷ rs)) i (omega (arith, q.0, stood_length (r ∷ rs)))
    (λ k h. ap (λ (x : Standing). eqb x.order.number n) (stood_at k (omega (arith, h, q.0))) ∙ q.2 k h)
    (ap (λ (x : Standing). eqb x.order.number n) (stood_at i q.0) ∙ q.1) in
    record { there = q.0; found = p.found; same = p.same; row = λ x z. sym (row_at (r ∷ rs) i x q.0 z) ∙ p.row; gone = p.gone; hour = p.hour }

none_stands : (n : ℕ) (rows : List Row) → length rows ≤ position_or_len (is_number n) rows → stands n (all_stood rows) ≡ false
unfolding stands
none_stands n [] h = refl
none_stands n (r ∷ rs) h = ⊎_elim
    (λ (t : eqb r.order.number n ≡ true). absurd (let z = rw t at h in omega (arith, z)))
    (λ (t : eqb r.order.number n ≡ false). rw t (none_stands n rs (let z = rw t at h in omega (arith, z))))
    (cases_Bool (eqb r.order.number n))

none_at : (n : ℕ) (rows : List Row) → position (is_number n) rows ≡ None → length rows ≤ position_or_len (is_number n) rows
none_at n rows e = grind (arith, nat_tests)

-- what the first place of a row with the number says
pub found_by : (n : ℕ) (rows : List Row) (o : Option ℕ) → o ≡ position (λ r. eqb r.order.number n) rows → MatchOption o (stands n (all_stood rows) ≡ false) (λ i. Found n rows i)
found_by n rows None e = none_stands n rows (none_at n rows (sym e))
found_by n rows (Some i) e = found_at n rows i (sym e)
