-- The first hour of a run that has its bit set.
use Rattle.std.proofs.Common.{◌≡◌, ℕ, zero, suc, ◌+◌, Bool, true, false, cond, ltb, map, Some, None, sym, ap, ◌∙◌, ⊎_elim, arith}
use Rattle.std.specs.List.{range_with_len, find}
use Rattle.std.proofs.lemmas.Bool.{le-ltb, lt-ltb, cond-true, cond-false, cases_Bool}
use Rattle.calendar.specs.Week.{any, least, later}
use Rattle.calendar.proofs.Leasts.{least_found, least_missed}
use Rattle.calendar.proofs.Sums.{any_next, any_empty}
use Rattle.hour_bits.specs.Bits.{first_set}

module _ (p : ℕ → Bool) (f : ℕ) where
  -- the first set bit is known by how many hours come before it
  set_at : (n k : ℕ) → least n (λ j. p (later f j)) ≡ k → first_set p f n ≡ cond (ltb k n) (Some (later f k)) None
  set_at n k e = ap (λ x. cond (ltb x n) (Some (later f x)) None) e

  pub set_missed : (n : ℕ) → any n (λ j. p (later f j)) ≡ false → None ≡ first_set p f n
  set_missed n none = sym (set_at n n (least_missed n (λ j. p (later f j)) none) ∙ cond-false (ltb n n) _ _ (le-ltb n n (omega arith)))

  -- it is found by a walk through the hours from the i-th on, if none before has its bit set
  found_from : (i n : ℕ) → any i (λ j. p (later f j)) ≡ false → find p (map (later f) (range_with_len i n)) ≡ first_set p f (i + n)
  found_from i zero none = let e : i + 0 ≡ i = omega arith in set_missed i none ∙ ap (first_set p f) (sym e)
  found_from i (suc n) none =
      ⊎_elim
      (λ (y : p (later f i) ≡ true).
      cond-true (p (later f i)) _ _ y
      ∙ sym (set_at (i + suc n) i (least_found (i + suc n) (λ j. p (later f j)) i (omega arith) none y) ∙ cond-true (ltb i (i + suc n)) _ _ (lt-ltb i (i + suc n) (omega arith))))
      (λ (y : p (later f i) ≡ false).
      let e : i + 1 + n ≡ i + suc n = omega arith in
      cond-false (p (later f i)) _ _ y ∙ found_from (i + 1) n (any_next i (λ j. p (later f j)) none (sym y)) ∙ ap (first_set p f) e)
      (cases_Bool (p (later f i)))

  pub found : (n : ℕ) → find p (map (later f) (range_with_len 0 n)) ≡ first_set p f n
  found n = let e : 0 + n ≡ n = omega arith in found_from 0 n (any_empty (λ j. p (later f j))) ∙ ap (first_set p f) e
