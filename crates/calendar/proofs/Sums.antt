-- Laws of `any` and `total`.
use Rattle.std.proofs.Common.{◌≡◌, ℕ, zero, suc, ◌+◌, ◌-◌, ◌%◌, ◌<◌, ◌≤◌, Bool, true, false, ◌||◌, sym, refl, ap, ◌∙◌, subst, ⊎_elim, add-zero, add-suc, add-one, arith}
use Rattle.std.proofs.lemmas.Bool.{or_cases, or_from, or_left, or_right, cases_eq, both_ways, cases_Bool, cases_lt}
use Rattle.std.specs.Cmp.{both_ways as implying_both}
use Rattle.calendar.specs.Week.{any, total}

pub bool_same : (a b : Bool) → (a ≡ true → b ≡ true) → (b ≡ true → a ≡ true) → a ≡ b
bool_same = implying_both

pub any_intro : (n : ℕ) (p : ℕ → Bool) (k : ℕ) → k < n → p k ≡ true → any n p ≡ true
unfolding any
any_intro zero p k h e = absurd (omega arith)
any_intro (suc n) p k h e = ⊎_elim (λ (q : k ≡ n). or_left (p n) (any n p) (subst (λ x. p x ≡ true) q e)) (λ q. or_right (p n) (any n p) (any_intro n p k (omega (arith, q)) e)) (cases_eq k n)

pub any_elim : (n : ℕ) (p : ℕ → Bool) → any n p ≡ true → (k : ℕ) × (k < n) × (p k ≡ true)
unfolding any
any_elim zero p e = absurd (both_ways false refl e)
any_elim (suc n) p e =
    ⊎_elim (λ q. (n, omega arith, q)) (λ q. let w = any_elim n p q in (w.0, omega (arith, w.1), w.2)) (or_cases (p n) (any n p) e)

pub any_none : (n : ℕ) (p : ℕ → Bool) → any n p ≡ false → (k : ℕ) → k < n → p k ≡ false
any_none n p e k h = ⊎_elim (λ t. absurd (both_ways (any n p) e (any_intro n p k h t))) (λ f. f) (cases_Bool (p k))

pub any_false : (n : ℕ) (p : ℕ → Bool) → ((k : ℕ) → k < n → p k ≡ false) → any n p ≡ false
any_false n p h = ⊎_elim (λ t. let w = any_elim n p t in absurd (both_ways (p w.0) (h w.0 w.1) w.2)) (λ f. f) (cases_Bool (any n p))

pub any_cong : (n : ℕ) (p q : ℕ → Bool) → ((k : ℕ) → k < n → p k ≡ q k) → any n p ≡ any n q
any_cong n p q h =
    bool_same (any n p) (any n q)
    (λ e. let w = any_elim n p e in any_intro n q w.0 w.1 (sym (h w.0 w.1) ∙ w.2))
    (λ e. let w = any_elim n q e in any_intro n p w.0 w.1 (h w.0 w.1 ∙ w.2))

pub total_cong : (n : ℕ) (f g : ℕ → ℕ) → ((k : ℕ) → k < n → f k ≡ g k) → total n f ≡ total n g
unfolding total
total_cong zero f g h = refl
total_cong (suc n) f g h = omega (arith, h n (omega arith), total_cong n f g (λ k l. h k (omega arith)))

-- f and g differ at i alone
pub total_point : (n : ℕ) (f g : ℕ → ℕ) (i : ℕ) → i < n → ((k : ℕ) → k < n → (k ≡ i → ⊥) → f k ≡ g k) → total n f + g i ≡ total n g + f i
unfolding total
total_point zero f g i l h = absurd (omega arith)
total_point (suc n) f g i l h =
    ⊎_elim
    (λ (q : i ≡ n). let e = total_cong n f g (λ k m. h k (omega arith) (λ z. omega (arith, z, q, m))) in
    rw q (omega (arith, e)))
    (λ q. omega (arith, h n (omega arith) (λ z. q (sym z)), total_point n f g i (omega (arith, q)) (λ k m. h k (omega arith))))
    (cases_eq i n)

pub total_split : (a b : ℕ) (f : ℕ → ℕ) → total (a + b) f ≡ total a f + total b (λ i. f (a + i))
unfolding total
total_split a zero f = rw add-zero (omega arith)
total_split a (suc b) f = rw add-suc (omega (arith, total_split a b f))

pub total_rotate : (o : ℕ) → o < 168 → (g : ℕ → ℕ) → total 168 (λ f. g ((f + o) % 168)) ≡ total 168 g
total_rotate o h g =
    let r : ℕ → ℕ = λ f. g ((f + o) % 168) in
    let n : ℕ = 168 - o in
    let e1 : total 168 r ≡ total (n + o) r = ap (λ k. total k r) (omega arith) in
    let e2 : total 168 g ≡ total (o + n) g = ap (λ k. total k g) (omega arith) in
    let c1 : total n r ≡ total n (λ i. g (o + i)) = total_cong n r (λ i. g (o + i)) (λ k l. ap g (omega arith)) in
    let c2 : total o (λ i. r (n + i)) ≡ total o g = total_cong o (λ i. r (n + i)) g (λ k l. ap g (omega arith)) in
    omega (arith, e1, e2, total_split n o r, total_split o n g, c1, c2)

pub any_or : (n : ℕ) (p q : ℕ → Bool) → any n (λ k. p k || q k) ≡ (any n p || any n q)
any_or n p q =
    bool_same (any n (λ k. p k || q k)) (any n p || any n q)
    (λ e. let w = any_elim n (λ k. p k || q k) e in
    ⊎_elim (λ t. or_left (any n p) (any n q) (any_intro n p w.0 w.1 t)) (λ t. or_right (any n p) (any n q) (any_intro n q w.0 w.1 t)) (or_cases (p w.0) (q w.0) w.2))
    (λ e. ⊎_elim
    (λ t. let w = any_elim n p t in any_intro n (λ k. p k || q k) w.0 w.1 (or_left (p w.0) (q w.0) w.2))
    (λ t. let w = any_elim n q t in any_intro n (λ k. p k || q k) w.0 w.1 (or_right (p w.0) (q w.0) w.2))
    (or_cases (any n p) (any n q) e))

pub any_suc : (n : ℕ) (p : ℕ → Bool) → any (n + 1) p ≡ (p n || any n p)
unfolding any
any_suc n p = rw add-one

pub any_empty : (p : ℕ → Bool) → any 0 p ≡ false
unfolding any
any_empty p = refl

-- a loop that looks for a k that passes
pub any_next : (i : ℕ) (p : ℕ → Bool) → any i p ≡ false → false ≡ p i → any (i + 1) p ≡ false
any_next i p a b = any_suc i p ∙ or_from (p i) (any i p) (sym b) a

pub any_found : (n : ℕ) (p : ℕ → Bool) (i : ℕ) → i < n → true ≡ p i → true ≡ any n p
any_found n p i l e = sym (any_intro n p i l (sym e))

pub any_done : (n : ℕ) (p : ℕ → Bool) (i : ℕ) → any i p ≡ false → i ≤ n → n ≤ i → false ≡ any n p
any_done n p i e a b = let q : i ≡ n = omega arith in sym (rw q at e)

pub total_zero : (n : ℕ) (f : ℕ → ℕ) → ((k : ℕ) → k < n → f k ≡ 0) → total n f ≡ 0
unfolding total
total_zero zero f h = refl
total_zero (suc n) f h = omega (arith, h n (omega arith), total_zero n f (λ k l. h k (omega arith)))

pub total_some : (n : ℕ) (f : ℕ → ℕ) → 0 < total n f → (k : ℕ) × (k < n) × (0 < f k)
unfolding total
total_some zero f h = absurd (omega arith)
total_some (suc n) f h =
    ⊎_elim (λ (q : 0 < f n). (n, omega arith, q)) (λ (q : f n ≤ 0). let w = total_some n f (omega arith) in (w.0, omega (arith, w.1), w.2)) (cases_lt 0 (f n))

-- of numbers up to 1
pub total_ones : (n : ℕ) (f : ℕ → ℕ) → ((k : ℕ) → k < n → f k ≡ 1) → total n f ≡ n
unfolding total
total_ones zero f h = refl
total_ones (suc n) f h = omega (arith, h n (omega arith), total_ones n f (λ k l. h k (omega arith)))

pub total_most : (n : ℕ) (f : ℕ → ℕ) → ((k : ℕ) → f k ≤ 1) → total n f ≤ n
unfolding total
total_most zero f h = omega arith
total_most (suc n) f h = omega (arith, h n, total_most n f h)

pub total_suc : (n : ℕ) (f : ℕ → ℕ) → total (n + 1) f ≡ f n + total n f
unfolding total
total_suc n f = rw add-one

pub total_empty : (f : ℕ → ℕ) → total 0 f ≡ 0
unfolding total
total_empty f = refl

pub total_plus : (n : ℕ) (f g : ℕ → ℕ) → total n (λ k. f k + g k) ≡ total n f + total n g
unfolding total
total_plus zero f g = refl
total_plus (suc n) f g = omega (arith, total_plus n f g)
