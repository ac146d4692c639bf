-- Laws of `least`.
use Rattle.std.proofs.Common.{◌≡◌, ℕ, zero, suc, ◌<◌, ◌≤◌, min, Bool, true, false, ◌||◌, ltb, sym, refl, ap, ◌∙◌, subst, ⊎_elim, arith}
use Rattle.std.proofs.lemmas.Bool.{cases_Bool, cases_eq, cases_lt, both_ways, lt-ltb, le-ltb, ltb-true, or_left, or_right, cond-true, cond-false}
use Rattle.calendar.specs.Week.{any, least}
use Rattle.calendar.proofs.Sums.{bool_same, any_intro, any_elim, any_none}

-- where one is found below n, where n itself is it, and where there is none up to n
least_kept : (n : ℕ) (p : ℕ → Bool) → least n p < n → least (suc n) p ≡ least n p
unfolding least
least_kept n p h = cond-true (ltb (least n p) n) _ _ (lt-ltb (least n p) n h)

least_new : (n : ℕ) (p : ℕ → Bool) → n ≤ least n p → p n ≡ true → least (suc n) p ≡ n
unfolding least
least_new n p h e = cond-false (ltb (least n p) n) _ _ (le-ltb (least n p) n h) ∙ cond-true (p n) _ _ e

least_past : (n : ℕ) (p : ℕ → Bool) → n ≤ least n p → p n ≡ false → least (suc n) p ≡ suc n
unfolding least
least_past n p h e = cond-false (ltb (least n p) n) _ _ (le-ltb (least n p) n h) ∙ cond-false (p n) _ _ e

least_zero : (p : ℕ → Bool) → least 0 p ≡ 0
unfolding least
least_zero p = refl

-- the three at once
pub record Least (n : ℕ) (p : ℕ → Bool) (k : ℕ) : Type 0 where
  pub most : k ≤ n
  pub before : (j : ℕ) → j < k → p j ≡ false
  pub at : k < n → p k ≡ true

pub least_law : (n : ℕ) (p : ℕ → Bool) → Least n p (least n p)
least_law zero p = record { most = omega (arith, least_zero p); before = λ j h. absurd (omega (arith, h, least_zero p)); at = λ h. absurd (omega arith) }
least_law (suc n) p =
    let s = least_law n p in
    ⊎_elim
    (λ (q : least n p < n). let e = least_kept n p q in record {
      most = omega (arith, e, q);
      before = λ j h. s.before j (omega (arith, h, e));
      at = λ _. subst (λ k. p k ≡ true) (sym e) (s.at q);
    })
    (λ (q : n ≤ least n p). ⊎_elim
    (λ (t : p n ≡ true). let e = least_new n p q t in record {
      most = omega (arith, e);
      before = λ j h. s.before j (omega (arith, h, e, q));
      at = λ _. subst (λ k. p k ≡ true) (sym e) t;
    })
    (λ (f : p n ≡ false). let e = least_past n p q f in record {
      most = omega (arith, e);
      before = λ j h. ⊎_elim (λ (z : j ≡ n). ap p z ∙ f) (λ z. s.before j (omega (arith, h, e, q, z))) (cases_eq j n);
      at = λ h. absurd (omega (arith, h, e));
    })
    (cases_Bool (p n)))
    (cases_lt (least n p) n)

-- there is only one such number
pub least_one : (n : ℕ) (p : ℕ → Bool) (a b : ℕ) → Least n p a → Least n p b → a ≡ b
least_one n p a b x y =
    ⊎_elim
    (λ (q : a < b). absurd (both_ways (p a) (y.before a q) (x.at (omega (arith, q, y.most)))))
    (λ (q : b ≤ a). ⊎_elim
    (λ (z : b < a). absurd (both_ways (p b) (x.before b z) (y.at (omega (arith, z, x.most)))))
    (λ (z : a ≤ b). omega arith)
    (cases_lt b a))
    (cases_lt a b)

pub least_is : (n : ℕ) (p : ℕ → Bool) (k : ℕ) → Least n p k → least n p ≡ k
least_is n p k x = least_one n p (least n p) k (least_law n p) x

pub least_none : (n : ℕ) (p : ℕ → Bool) → ((j : ℕ) → j < n → p j ≡ false) → least n p ≡ n
least_none n p h = least_is n p n (record { most = omega arith; before = h; at = λ z. absurd (omega (arith, z)) })

pub least_cong : (n : ℕ) (p q : ℕ → Bool) → ((j : ℕ) → j < n → p j ≡ q j) → least n p ≡ least n q
least_cong n p q h =
    let s = least_law n q in
    least_is n p (least n q) (record {
      most = s.most;
      before = λ j b. h j (omega (arith, b, s.most)) ∙ s.before j b;
      at = λ b. h (least n q) b ∙ s.at b;
    })

-- of fewer numbers
pub least_short : (n k : ℕ) (p : ℕ → Bool) → n ≤ k → least n p ≡ min n (least k p)
least_short n k p h =
    let s = least_law k p in
    ⊎_elim
    (λ (q : least k p < n). least_is n p (least k p) (record { most = omega arith; before = s.before; at = λ _. s.at (omega arith) }) ∙ omega (arith, q))
    (λ (q : n ≤ least k p). least_none n p (λ j b. s.before j (omega (arith, b, q))) ∙ omega (arith, q))
    (cases_lt (least k p) n)

-- the least that passes either test
pub least_or : (n : ℕ) (p q : ℕ → Bool) → least n (λ j. p j || q j) ≡ min (least n p) (least n q)
least_or n p q =
    let s = least_law n p in
    let t = least_law n q in
    least_is n (λ j. p j || q j) (min (least n p) (least n q)) (record {
      most = omega (arith, s.most);
      before = λ j b. or_none (p j) (q j) (s.before j (omega (arith, b))) (t.before j (omega (arith, b)));
      at = λ b. ⊎_elim
          (λ (z : least n p < least n q). let e : min (least n p) (least n q) ≡ least n p = omega (arith, z) in subst (λ k. (p k || q k) ≡ true) (sym e) (or_left (p (least n p)) (q (least n p)) (s.at (omega (arith, b, e)))))
          (λ (z : least n q ≤ least n p). let e : min (least n p) (least n q) ≡ least n q = omega (arith, z) in subst (λ k. (p k || q k) ≡ true) (sym e) (or_right (p (least n q)) (q (least n q)) (t.at (omega (arith, b, e)))))
          (cases_lt (least n p) (least n q));
    })
  where
    or_none : (a b : Bool) → a ≡ false → b ≡ false → (a || b) ≡ false
    or_none a b x y = ap (λ z. z || b) x ∙ y

-- some number passes exactly where the least of them is below n
pub least_any : (n : ℕ) (p : ℕ → Bool) → ltb (least n p) n ≡ any n p
least_any n p =
    let s = least_law n p in
    bool_same (ltb (least n p) n) (any n p)
    (λ e. let q = ltb-true (least n p) n e in any_intro n p (least n p) q (s.at q))
    (λ e. let w = any_elim n p e in lt-ltb (least n p) n (⊎_elim (λ z. z) (λ (z : n ≤ least n p). absurd (both_ways (p w.0) (s.before w.0 (omega (arith, z, w.1))) w.2)) (cases_lt (least n p) n)))

-- a loop that looks for the first: where it finds one, and where it finds none
pub least_found : (n : ℕ) (p : ℕ → Bool) (i : ℕ) → i < n → any i p ≡ false → p i ≡ true → least n p ≡ i
least_found n p i h none e = least_is n p i (record { most = omega (arith, h); before = λ j b. any_none i p none j b; at = λ _. e })

pub least_missed : (n : ℕ) (p : ℕ → Bool) → any n p ≡ false → least n p ≡ n
least_missed n p none = least_none n p (λ j b. any_none n p none j b)
