-- Laws of `sum_by`, `total` and `greatest`.
use Rattle.std.proofs.Common.{◌≡◌, ℕ, zero, suc, ◌+◌, ◌*◌, ◌<◌, ◌≤◌, Bool, true, false, cond, List, [], ◌∷◌, map, sum_by, sym, refl, ap, ⊎_elim, add-mul, one-mul, zero-mul, arith}
use Rattle.std.specs.List.{AllByRecursion}
use Rattle.std.proofs.lemmas.List.Sums.{sum_by-cons}
use Rattle.std.proofs.lemmas.Bool.{cases_lt}
use Rattle.calendar.specs.Week.{total}
use Rattle.orders.specs.Standing.{num}
use Rattle.floor.specs.Floor.{greatest}

-- ---- over a list

pub sum_by_mono : {X : Type 0} (P : X → Type 0) (f g : X → ℕ) (xs : List X) → AllByRecursion P xs → ((x : X) → P x → f x ≤ g x) → sum_by f xs ≤ sum_by g xs
sum_by_mono P f g [] h le = omega arith
sum_by_mono P f g (x ∷ xs) h le =
    omega (arith, sum_by-cons f x xs, sum_by-cons g x xs, sum_by_mono P f g xs h.1 le, le x h.0)

pub sum_by_plus : {X : Type 0} (f g : X → ℕ) (xs : List X) → sum_by (λ x. f x + g x) xs ≡ sum_by f xs + sum_by g xs
sum_by_plus f g [] = refl
sum_by_plus f g (x ∷ xs) =
    omega (arith, sum_by-cons f x xs, sum_by-cons g x xs, sum_by-cons (λ y. f y + g y) x xs, sum_by_plus f g xs)

pub sum_by_zero : {X : Type 0} (xs : List X) → sum_by (λ (x : X). 0) xs ≡ 0
sum_by_zero [] = refl
sum_by_zero (x ∷ xs) = omega (arith, sum_by-cons (λ y. 0) x xs, sum_by_zero xs)

pub sum_by_map : {X Y : Type 0} (h : X → Y) (f : Y → ℕ) (xs : List X) → sum_by f (map h xs) ≡ sum_by (λ x. f (h x)) xs
sum_by_map h f [] = refl
sum_by_map h f (x ∷ xs) =
    omega (arith, sum_by-cons f (h x) (map h xs), sum_by-cons (λ y. f (h y)) x xs, sum_by_map h f xs)

-- ---- over the numbers below n

-- one term of a sum
pub total_term : (n : ℕ) (f : ℕ → ℕ) (k : ℕ) → k < n → f k ≤ total n f
unfolding total
total_term zero f k h = omega arith
total_term (suc n) f k h =
    ⊎_elim (λ (l : k < n). omega (arith, total_term n f k l)) (λ (l : n ≤ k). let e : k ≡ n = omega arith in rw e (omega arith)) (cases_lt k n)

-- a table of numbers, summed by rows and bounded by columns
pub total_columns : {X : Type 0} (n : ℕ) (g : X → ℕ → ℕ) (xs : List X) (c : ℕ → ℕ) → ((i : ℕ) → i < n → sum_by (λ x. g x i) xs ≤ c i) → sum_by (λ x. total n (g x)) xs ≤ total n c
unfolding total
total_columns zero g xs c h = omega (arith, sum_by_zero xs)
total_columns (suc n) g xs c h =
    omega (arith, sum_by_plus (λ x. g x n) (λ x. total n (g x)) xs, total_columns n g xs c (λ i l. h i (omega arith)), h n (omega arith))

-- d once for each k that passes
pub total_times : (n : ℕ) (b : ℕ → Bool) (d : ℕ) → total n (λ i. cond (b i) d 0) ≡ total n (λ i. num (b i)) * d
unfolding total
total_times zero b d = sym (zero-mul d)
total_times (suc n) b d = rw (total_times n b d, add-mul) (ap (λ x. x + total n (λ i. num (b i)) * d) (one (b n)))
  where
    one : (t : Bool) → cond t d 0 ≡ num t * d
    one true = sym (one-mul d)
    one false = sym (zero-mul d)

-- ---- the greatest

-- what bounds each value bounds the greatest
pub greatest_least : (n : ℕ) (f : ℕ → ℕ) (m : ℕ) → ((k : ℕ) → k < n → f k ≤ m) → greatest n f ≤ m
unfolding greatest
greatest_least zero f m h = omega arith
greatest_least (suc n) f m h = omega (arith, greatest_least n f m (λ k l. h k (omega arith)), h n (omega arith))

pub greatest_zero : (n : ℕ) (f : ℕ → ℕ) → ((k : ℕ) → f k ≡ 0) → greatest n f ≡ 0
greatest_zero n f h = omega (arith, greatest_least n f 0 (λ k _. omega (arith, h k)))
