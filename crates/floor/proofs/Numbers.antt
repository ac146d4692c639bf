-- Numbers in a list: how often one stands there, and how many different ones there are.
use Rattle.std.proofs.Common.{◌≡◌, ℕ, zero, suc, ◌+◌, ◌<◌, ◌≤◌, Bool, true, false, cond, not, ◌||◌, eqb, ltb, leb, List, [], ◌∷◌, ◌++◌, length, count_by, filter, sym, refl, ◌∙◌, ⊎_elim, arith}
use Rattle.std.specs.List.{range_with_len, AllByRecursion}
use Rattle.std.proofs.lemmas.List.Filters.{length-filter_both}
use Rattle.std.proofs.lemmas.List.Sums.{sum_by-cons, sum_by-append, length-filter}
use Rattle.std.proofs.lemmas.Bool.{cases_Bool, eqb-true, eqb-false, eq-eqb, ne_eqb, and_left, lt-leb, cond-true, cond-false, false≢true}
use Rattle.std.proofs.lemmas.Bool.Decides.{nat_tests}
use Rattle.calendar.specs.Week.{total}
use Rattle.calendar.proofs.Sums.{total_point, total_zero}
use Rattle.network.specs.Paths.{has, no_twice}
use Rattle.orders.specs.Standing.{num, block_has}
use Rattle.floor.specs.Plans.{different}

-- ---- how often

-- how often x stands in xs
abbrev pub times : ℕ → List ℕ → ℕ
times x xs = count_by (λ y. eqb x y) xs

pub times_cons : (x y : ℕ) (ys : List ℕ) → times x (y ∷ ys) ≡ num (eqb x y) + times x ys
times_cons x y ys = sum_by-cons (λ z. cond (eqb x z) 1 0) y ys

pub times_append : (x : ℕ) (xs ys : List ℕ) → times x (xs ++ ys) ≡ times x xs + times x ys
times_append x xs ys = sum_by-append (λ y. cond (eqb x y) 1 0) xs ys

pub times_none : (x : ℕ) (ys : List ℕ) → has x ys ≡ false → times x ys ≡ 0
times_none x [] h = refl
times_none x (y ∷ ys) h =
    ⊎_elim
    (λ (e : eqb x y ≡ true). absurd (false≢true (sym h ∙ cond-true (eqb x y) true (has x ys) e)))
    (λ (e : eqb x y ≡ false). let ih = times_none x ys (rw e at h) in times_cons x y ys ∙ rw e (omega arith))
    (cases_Bool (eqb x y))

pub times_once : (x : ℕ) (ys : List ℕ) → no_twice ys ≡ true → times x ys ≤ 1
times_once x [] h = omega arith
times_once x (y ∷ ys) h =
    ⊎_elim
    (λ (m : has y ys ≡ true). absurd (false≢true (rw m at h)))
    (λ (m : has y ys ≡ false).
    let ih = times_once x ys (rw m at h) in
    rw (times_cons x y ys)
    (⊎_elim
    (λ (e : eqb x y ≡ true). let z = times_none x ys (rw (eqb-true x y e) m) in rw e (omega arith))
    (λ (e : eqb x y ≡ false). rw e (omega arith))
    (cases_Bool (eqb x y))))
    (cases_Bool (has y ys))

pub has_append : (x : ℕ) (xs ys : List ℕ) → has x (xs ++ ys) ≡ (has x xs || has x ys)
has_append x [] ys = refl
has_append x (z ∷ zs) ys = ⊎_elim (λ (e : eqb x z ≡ true). rw e) (λ (e : eqb x z ≡ false). rw e (has_append x zs ys)) (cases_Bool (eqb x z))

-- ---- how many different ones

-- what is left without y
abbrev without : ℕ → List ℕ → List ℕ
without y xs = filter (λ x. not (eqb y x)) xs

times_without : (x y : ℕ) (xs : List ℕ) → times x (without y xs) ≤ cond (eqb x y) 0 (times x xs)
times_without x y [] = ⊎_elim (λ (e : eqb x y ≡ true). rw e (omega arith)) (λ (e : eqb x y ≡ false). rw e (omega arith)) (cases_Bool (eqb x y))
times_without x y (z ∷ zs) =
    let c = times_cons x z zs in
    let ih = times_without x y zs in
    ⊎_elim
    (λ (e : eqb y z ≡ true).
    ⊎_elim
    (λ (d : eqb x y ≡ true). let i = rw d at ih in rw (e, d) (omega arith))
    (λ (d : eqb x y ≡ false). let i = rw d at ih in rw (e, d) (omega arith))
    (cases_Bool (eqb x y)))
    (λ (e : eqb y z ≡ false).
    let k = times_cons x z (without y zs) in
    ⊎_elim
    (λ (d : eqb x y ≡ true).
    let n : eqb x z ≡ false = ne_eqb x z (λ q. eqb-false y z e (sym (eqb-true x y d) ∙ q)) in
    let i = rw d at ih in
    let j = rw n at k in
    rw (e, d) (omega arith))
    (λ (d : eqb x y ≡ false). let i = rw d at ih in rw (e, d) (omega arith))
    (cases_Bool (eqb x y)))
    (cases_Bool (eqb y z))

length_without : (y : ℕ) (xs : List ℕ) → times y xs + length (without y xs) ≡ length xs
length_without y xs = rw (← length-filter (λ x. eqb y x) xs) (length-filter_both (λ x. eqb y x) (λ x. not (eqb y x)) (λ _. refl) xs)

-- where each number of xs stands there once, and in ys too, there are no more than ys has different ones
pub pigeonhole : (ys xs : List ℕ) → ((x : ℕ) → times x xs ≤ num (has x ys)) → length xs ≤ different ys
pigeonhole [] [] h = omega arith
pigeonhole [] (x ∷ xs) h =
    let e = eq-eqb x x refl in
    let k : times x (x ∷ xs) ≤ 0 = h x in
    let one : 1 ≤ times x (x ∷ xs) = rw (times_cons x x xs, e) (omega arith) in
    absurd (omega arith)
pigeonhole (y ∷ ys) xs h =
    ⊎_elim
    (λ (m : has y ys ≡ true). rw m (omega (arith, pigeonhole ys xs (λ x. ⊎_elim (λ (e : eqb x y ≡ true). let n : has x ys ≡ true = rw (eqb-true x y e) m in let k = rw e at (h x) in rw n k) (λ (e : eqb x y ≡ false). rw e at (h x)) (cases_Bool (eqb x y))))))
    (λ (m : has y ys ≡ false).
    let k : times y xs ≤ 1 = rw (eq-eqb y y refl) at (h y) in
    rw m (omega (arith, length_without y xs, pigeonhole ys (without y xs) (λ x. ⊎_elim (λ (e : eqb x y ≡ true). let w = rw e at (times_without x y xs) in omega arith) (λ (e : eqb x y ≡ false). let w = rw e at (times_without x y xs) in let k = rw e at (h x) in omega arith) (cases_Bool (eqb x y))))))
    (cases_Bool (has y ys))

-- ---- a block of channels

pub has_counting : (c a w : ℕ) → has c (range_with_len a w) ≡ block_has a w c
has_counting c a zero = grind (arith, nat_tests)
has_counting c a (suc w) = let ih = has_counting c (a + 1) w in grind (arith, nat_tests)

pub once_counting : (a w : ℕ) → no_twice (range_with_len a w) ≡ true
once_counting a zero = refl
once_counting a (suc w) =
    cond-false (has a (range_with_len (a + 1) w)) false (no_twice (range_with_len (a + 1) w)) (has_counting a (a + 1) w ∙ and_left (leb (a + 1) a) (ltb a (a + 1 + w)) (lt-leb (a + 1) a (omega arith))) ∙ once_counting (a + 1) w

pub counting_within : (a w m : ℕ) → 1 ≤ a → a + w ≤ m + 1 → AllByRecursion (λ x. (1 ≤ x) × (x ≤ m)) (range_with_len a w)
counting_within a zero m l h = tt
counting_within a (suc w) m l h = ((l, omega arith), counting_within (a + 1) w m (omega arith) (omega arith))

-- ---- how many different ones, by a test for each of 1 to m

-- 1 for each of the numbers 1 to m that stands in xs
abbrev pub tested : List ℕ → ℕ → ℕ
tested xs k = num (has (suc k) xs)

tested_cons : (k m : ℕ) (xs : List ℕ) → k < m → total m (tested (suc k ∷ xs)) ≡ cond (has (suc k) xs) 0 1 + total m (tested xs)
tested_cons k m xs l =
    let here : tested (suc k ∷ xs) k ≡ 1 = rw (eq-eqb (suc k) (suc k) refl) refl in
    let p = total_point m (tested (suc k ∷ xs)) (tested xs) k l
    (λ i _ ne. let q : eqb (suc i) (suc k) ≡ false = ne_eqb (suc i) (suc k) (λ z. ne (omega (arith, z))) in rw q refl) in
    omega (arith, p, here, split (has (suc k) xs))
  where
    split : (b : Bool) → 1 ≡ cond b 0 1 + num b
    split true = refl
    split false = refl

tested_more : (x m : ℕ) (xs : List ℕ) → 1 ≤ x → x ≤ m → total m (tested (x ∷ xs)) ≡ cond (has x xs) 0 1 + total m (tested xs)
tested_more zero m xs l h = absurd (omega arith)
tested_more (suc k) m xs l h = tested_cons k m xs h

pub different_tested : (m : ℕ) (xs : List ℕ) → AllByRecursion (λ x. (1 ≤ x) × (x ≤ m)) xs → different xs ≡ total m (tested xs)
different_tested m [] h = sym (total_zero m (tested []) (λ k _. refl))
different_tested m (x ∷ xs) h = omega (arith, tested_more x m xs h.0.0 h.0.1, different_tested m xs h.1)
