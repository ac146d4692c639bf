-- Runs read off the bits of one row. `RunAt` says by the bits what `hours_of` computes; proofs go by the former.
use Rattle.std.proofs.Common.{◌≡◌, ℕ, suc, ◌+◌, ◌-◌, ◌%◌, ◌<◌, ◌≤◌, Bool, true, false, not, ◌&&◌, eqb, sym, refl, ap, ◌∙◌, subst, ⊎_elim, arith}
use Rattle.std.proofs.lemmas.Bool.{both_ways, cases_order, cases_lt, cases_Bool, cond-true, cond-false, and_parts, and_left, and_right, not-true, not-false, not_from_true, not_from_false, ne_eqb, eq-eqb}
use Rattle.calendar.specs.Week.{any, least, later}
use Rattle.calendar.proofs.Leasts.{least_law}
use Rattle.hour_bits.specs.Bits.{goes_on, lasts, hours_of}
use Rattle.hour_bits.proofs.Circle.{ahead, free_from, full_from, any_free, any_full}

-- a run of n hours starts at f: every later hour of it is held and no start, and the hour after it is not so
pub record RunAt (held start : ℕ → Bool) (f n : ℕ) : Type 0 where
  pub begins : start f ≡ true
  pub some : 1 ≤ n
  pub most : n ≤ 168
  pub goes : (h : ℕ) → h < 168 → 0 < ahead f h → ahead f h < n → (held h ≡ true) × (start h ≡ false)
  pub ends : (h : ℕ) → h < 168 → ahead f h ≡ n → held h ≡ true → start h ≡ true

pub second_false : (x y : Bool) → x ≡ true → (x && y) ≡ false → y ≡ false
second_false true y p q = q
second_false false y p q = absurd (both_ways false refl p)

module _ {held start : ℕ → Bool} where
  not_shorter : {f n m : ℕ} → f < 168 → RunAt held start f n → RunAt held start f m → n < m → ⊥
  not_shorter {f} {n} {m} p r s l =
      let top = s.most in
      let some = r.some in
      let g = s.goes ((f + n) % 168) (omega arith) (omega arith) (omega arith) in
      both_ways (start ((f + n) % 168)) g.1 (r.ends ((f + n) % 168) (omega arith) (omega arith) g.0)

  -- at most one run starts at an hour
  unique : {f n m : ℕ} → f < 168 → RunAt held start f n → RunAt held start f m → n ≡ m
  unique {f} {n} {m} p r s =
      ⊎_elim (λ e. e) (⊎_elim (λ l. absurd (not_shorter p r s l)) (λ l. absurd (not_shorter p s r l))) (cases_order n m)

  -- two runs from different hours share none
  pub apart : {a f n m h : ℕ} → a < 168 → f < 168 → h < 168 → RunAt held start a n → RunAt held start f m → (f ≡ a → ⊥)
      → ahead a h < n → ahead f h < m → ⊥
  apart {a} {f} {n} {m} {h} p q r u v ne x y =
      ⊎_elim
      (λ l. both_ways (start f) (u.goes f q (omega arith) (omega arith)).1 v.begins)
      (λ l. both_ways (start a) (v.goes a p (omega arith) (omega arith)).1 u.begins)
      (cases_lt (ahead f h) (ahead a h))

module _ (held start : ℕ → Bool) where
  -- the length that is read off the bits is the run's
  pub run_there : (f : ℕ) → f < 168 → start f ≡ true → RunAt held start f (hours_of held start f)
  unfolding lasts
  run_there f p y =
      let stop : ℕ → Bool = λ j. not (goes_on held start (later f (suc j))) in
      let n : ℕ = least 167 stop in
      let e : hours_of held start f ≡ suc n = cond-true (start f) _ _ y in
      let s = least_law 167 stop in
      let top = s.most in
      record {
        begins = y;
        some = omega arith;
        most = omega arith;
        goes = λ h q r t.
            let i : h ≡ later f (suc (ahead f h - 1)) = omega arith in
            let m = and_parts (held h) (not (start h)) (ap (goes_on held start) i ∙ not-false _ (s.before (ahead f h - 1) (omega arith))) in
            (m.0, not-true (start h) m.1);
        ends = λ h q r t.
            let i : h ≡ later f (suc n) = omega arith in
            not-false (start h) (second_false (held h) (not (start h)) t (ap (goes_on held start) i ∙ not-true _ (s.at (omega arith))));
      }

  pub hours_are : {f n : ℕ} → f < 168 → RunAt held start f n → hours_of held start f ≡ n
  hours_are {f} p r = unique p (run_there f p r.begins) r

  pub hours_none : (f : ℕ) → start f ≡ false → hours_of held start f ≡ 0
  hours_none f e = cond-false (start f) _ _ e

  pub hours_some : (f : ℕ) → 0 < hours_of held start f → start f ≡ true
  hours_some f l = ⊎_elim (λ y. y) (λ y. let e = hours_none f y in absurd (omega arith)) (cases_Bool (start f))

-- a run by the parts that a program tests
module _ (held start : ℕ → Bool) (f n : ℕ) (p : f < 168) (some : 1 ≤ n) (most : n ≤ 168) (y : start f ≡ true) where
  as_hours : lasts held start f ≡ hours_of held start f
  as_hours = sym (cond-true (start f) (lasts held start f) 0 y)

  is_run : lasts held start f ≡ n → RunAt held start f n
  is_run e = subst (RunAt held start f) (sym as_hours ∙ e) (run_there held start f p y)

  run_is : RunAt held start f n → lasts held start f ≡ n
  run_is r = as_hours ∙ hours_are held start p r

  pub not_held : any (n - 1) (λ j. not (held (later ((f + 1) % 168) j))) ≡ true → false ≡ eqb (lasts held start f) n
  not_held e =
      sym (ne_eqb (lasts held start f) n (λ i. let r = is_run i in
      both_ways _ (any_full held ((f + 1) % 168) (n - 1) (omega arith) (omega arith) (λ h q s. (r.goes h q (omega arith) (omega arith)).0)) e))

  pub start_between : any (n - 1) (λ j. start (later ((f + 1) % 168) j)) ≡ true → false ≡ eqb (lasts held start f) n
  start_between e =
      sym (ne_eqb (lasts held start f) n (λ i. let r = is_run i in
      both_ways _ (any_free start ((f + 1) % 168) (n - 1) (omega arith) (omega arith) (λ h q s. (r.goes h q (omega arith) (omega arith)).1)) e))

  module _ (full : any (n - 1) (λ j. not (held (later ((f + 1) % 168) j))) ≡ false) (free : any (n - 1) (λ j. start (later ((f + 1) % 168) j)) ≡ false) where
    made : (n < 168 → goes_on held start (later f n) ≡ false) → RunAt held start f n
    made stop = record {
      begins = y;
      some = some;
      most = most;
      goes = λ h q r s. (full_from held ((f + 1) % 168) (n - 1) (omega arith) full h q (omega arith), free_from start ((f + 1) % 168) (n - 1) (omega arith) free h q (omega arith));
      ends = λ h q r s.
          let e : h ≡ later f n = omega arith in
          ap start e ∙ not-false (start (later f n)) (second_false (held (later f n)) (not (start (later f n))) (sym (ap held e) ∙ s) (stop (omega arith)));
    }

    pub whole_week : 168 ≤ n → true ≡ eqb (lasts held start f) n
    whole_week l = sym (eq-eqb (lasts held start f) n (run_is (made (λ s. absurd (omega arith)))))

    stops : n < 168 → RunAt held start f n → goes_on held start (later f n) ≡ false
    stops s r =
        ⊎_elim (λ y. and_right (held (later f n)) _ (not_from_true (start (later f n)) (r.ends (later f n) (omega arith) (omega arith) y))) (λ y. and_left (held (later f n)) _ y) (cases_Bool (held (later f n)))

    pub by_end : n < 168 → not (goes_on held start (later f n)) ≡ eqb (lasts held start f) n
    by_end s =
        ⊎_elim
        (λ (g : goes_on held start (later f n) ≡ true). not_from_true (goes_on held start (later f n)) g ∙ sym (ne_eqb (lasts held start f) n (λ i. both_ways (goes_on held start (later f n)) (stops s (is_run i)) g)))
        (λ (g : goes_on held start (later f n) ≡ false). not_from_false (goes_on held start (later f n)) g ∙ sym (eq-eqb (lasts held start f) n (run_is (made (λ _. g)))))
        (cases_Bool (goes_on held start (later f n)))
