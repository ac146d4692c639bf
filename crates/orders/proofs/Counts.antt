-- What the tie says of held cells, and of the cells that a search looks at.
use Rattle.std.proofs.Common.{◌≡◌, ℕ, zero, suc, ◌+◌, ◌-◌, ◌*◌, ◌<◌, ◌≤◌, Bool, true, false, cond, not, ◌&&◌, ◌||◌, ltb, List, [], ◌∷◌, sum_by, sym, refl, ap, ◌∙◌, ⊎_elim, suc-mul, zero-mul, arith}
use mathlib.Core.Path.{fun_ext}
use Rattle.std.proofs.lemmas.List.Sums.{sum_by-cons}
use Rattle.std.proofs.lemmas.Bool.Decides.{nat_tests}
use Rattle.std.proofs.lemmas.Bool.{cases_Bool, lt-ltb, le-ltb, cond-true, cond-false}
use Rattle.calendar.specs.Week.{total, covers}
use Rattle.calendar.specs.Meaning.{Meaning, is_held, held_count, taken}
use Rattle.calendar.proofs.Sums.{total_cong, total_zero, total_plus, total_split}
use Rattle.calendar.proofs.Grown.{covers_count}
use Rattle.network.specs.declared.network.Network.{Network}
use Rattle.orders.specs.Lists.{taken_then}
use Rattle.orders.specs.Standing.{Standing, num, crosses, block_has, takes, in_cell}
use Rattle.orders.proofs.Tied.{fit, Fit, Tied}
use Rattle.orders.proofs.Ties.{fit_parts, fit_of}

total_same : (n k : ℕ) (f : ℕ → ℕ) → ((i : ℕ) → i < n → f i ≡ k) → total n f ≡ n * k
unfolding total
total_same zero k f h = sym (zero-mul k)
total_same (suc n) k f h = rw suc-mul (omega (arith, h n (omega arith), total_same n k f (λ i l. h i (omega arith))))

-- the block has width channels
block_count : (C a w k : ℕ) → 1 ≤ a → a + w ≤ C + 1 → total C (λ c. cond (block_has a w (suc c)) k 0) ≡ w * k
block_count C a w k lo hi =
    let p : ℕ → ℕ = λ c. cond (block_has a w (suc c)) k 0 in
    let b : ℕ = a - 1 in
    let r : ℕ = C - (b + w) in
    let e : total C p ≡ total ((b + w) + r) p = ap (λ n. total n p) (omega arith) in
    let x = total_zero b p (λ i l. cond-false (block_has a w (suc i)) k 0 (grind (arith, nat_tests))) in
    let y = total_same w k (λ i. p (b + i)) (λ i l. cond-true (block_has a w (suc (b + i))) k 0 (grind (arith, nat_tests))) in
    let z = total_zero r (λ i. p ((b + w) + i)) (λ i l. cond-false (block_has a w (suc ((b + w) + i))) k 0 (grind (arith, nat_tests))) in
    omega (arith, e, total_split (b + w) r p, total_split b w p, x, y, z)

-- the cells of an order on one link
order_count : (net : Network) (L C : ℕ) (e : Standing) → Fit net L C e → (l : ℕ) → total C (λ c. total 168 (λ h. num (in_cell e l (suc c) h))) ≡ cond (crosses e l) (e.order.width * e.order.hours) 0
unfolding in_cell takes
order_count net L C e F l = ⊎_elim
    (λ (t : crosses e l ≡ true). rw t (total_cong C _ (λ c. cond (block_has e.channel e.order.width (suc c)) e.order.hours 0) (λ c _. chan c) ∙ block_count C e.channel e.order.width e.order.hours F.low F.high))
    (λ (t : crosses e l ≡ false). rw t (total_zero C _ (λ c _. total_zero 168 _ (λ h _. refl))))
    (cases_Bool (crosses e l))
  where
    chan : (c : ℕ) → total 168 (λ h. num (block_has e.channel e.order.width (suc c) && covers e.order.first e.order.hours h)) ≡ cond (block_has e.channel e.order.width (suc c)) e.order.hours 0
    chan c = ⊎_elim
        (λ (t : block_has e.channel e.order.width (suc c) ≡ true). rw t (covers_count e.order.first e.order.hours F.hour F.week))
        (λ (t : block_has e.channel e.order.width (suc c) ≡ false). rw t (total_zero 168 _ (λ h _. refl)))
        (cases_Bool (block_has e.channel e.order.width (suc c)))

total_sum : (n : ℕ) (f : Standing → ℕ → ℕ) (es : List Standing) → total n (λ k. sum_by (λ e. f e k) es) ≡ sum_by (λ e. total n (f e)) es
total_sum n f [] = total_zero n _ (λ _ _. refl)
total_sum n f (e ∷ es) =
    total_cong n (λ k. sum_by (λ x. f x k) (e ∷ es)) (λ k. f e k + sum_by (λ x. f x k) es) (λ k _. sum_by-cons (λ x. f x k) e es)
    ∙ omega (arith, total_plus n (f e) (λ k. sum_by (λ x. f x k) es), total_sum n f es, sum_by-cons (λ x. total n (f x)) e es)

sum_fit : (net : Network) (L C : ℕ) (f g : Standing → ℕ) (es : List Standing) → sum_by (λ e. num (not (fit net L C e))) es ≡ 0 → ((e : Standing) → Fit net L C e → f e ≡ g e) → sum_by f es ≡ sum_by g es
sum_fit net L C f g [] z h = refl
sum_fit net L C f g (e ∷ es) z h =
    let misfits = sum_by-cons (λ x. num (not (fit net L C x))) e es in
    omega (arith, sum_by-cons f e es, sum_by-cons g e es, h e (fit_parts net L C e (fit_of (fit net L C e) (omega (arith, z, misfits)))), sum_fit net L C f g es (omega (arith, z, misfits)) h)

pub held_sum : (net : Network) (s m : Meaning) (es : List Standing) → Tied net s m es → (l : ℕ) → held_count m l ≡ held_count s l + sum_by (λ e. cond (crosses e l) (e.order.width * e.order.hours) 0) es
unfolding held_count
held_sum net s m es t l =
    let C = s.channels in
    let I : ℕ → ℕ → ℕ = λ c h. sum_by (λ e. num (in_cell e l (suc c) h)) es in
    let H : ℕ → ℕ → ℕ = λ c h. num (is_held s l (suc c) h) in
    let one : total m.channels (λ c. total 168 (λ h. num (is_held m l (suc c) h))) ≡ total C (λ c. total 168 (λ h. num (is_held m l (suc c) h))) = ap (λ n. total n (λ c. total 168 (λ h. num (is_held m l (suc c) h)))) t.channels in
    let two = total_cong C (λ c. total 168 (λ h. num (is_held m l (suc c) h))) (λ c. total 168 (H c) + sum_by (λ e. total 168 (λ h. num (in_cell e l (suc c) h))) es)
    (λ c _. total_cong 168 _ (λ h. H c h + I c h) (λ h _. t.held l (suc c) h) ∙ total_plus 168 (H c) (I c) ∙ ap (λ x. total 168 (H c) + x) (total_sum 168 (λ e h. num (in_cell e l (suc c) h)) es)) in
    let three = total_plus C (λ c. total 168 (H c)) (λ c. sum_by (λ e. total 168 (λ h. num (in_cell e l (suc c) h))) es) in
    let four = total_sum C (λ e c. total 168 (λ h. num (in_cell e l (suc c) h))) es in
    let five = sum_fit net s.links C (λ e. total C (λ c. total 168 (λ h. num (in_cell e l (suc c) h)))) (λ e. cond (crosses e l) (e.order.width * e.order.hours) 0) es t.fits (λ e F. order_count net s.links C e F l) in
    omega (arith, one, two, three, four, five)

-- what is held now, in the words of the start and of the orders that stand: what a search over the standing list looks at
held_now : (net : Network) (s m : Meaning) (es : List Standing) → Tied net s m es → (l c h : ℕ) → is_held m l c h ≡ (is_held s l c h || ltb 0 (sum_by (λ e. num (in_cell e l c h)) es))
held_now net s m es t l c h = either (is_held m l c h) (is_held s l c h) (sum_by (λ e. num (in_cell e l c h)) es) (t.held l c h)
  where
    either : (a b : Bool) (n : ℕ) → num a ≡ num b + n → a ≡ (b || ltb 0 n)
    either true true n e = refl
    either true false n e = sym (lt-ltb 0 n (omega (arith, e)))
    either false true n e = absurd (omega (arith, e))
    either false false n e = sym (le-ltb 0 n (omega (arith, e)))

-- so any search over the cells not free now is one over the start and the standing orders
pub taken_now : (net : Network) (s m : Meaning) (es : List Standing) → Tied net s m es → taken m ≡ taken_then s es
taken_now net s m es t = fun_ext (λ l. fun_ext (λ c. fun_ext (λ h. ap (λ p. p l c h || is_held m l c h) t.closed ∙ ap (λ x. s.closed l c h || x) (held_now net s m es t l c h))))
