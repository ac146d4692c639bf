-- Chains over the numbers from a to b, and over n numbers from a on.
use Rattle.std.proofs.Common.{◌≡◌, ℕ, zero, suc, ◌+◌, ◌-◌, ◌<◌, max, Bool, true, false, List, ◌∷◌, map, length, fold, count_by, Some, None, Option, unwrap_or, refl, ap, ◌∙◌, arith}
use Rattle.std.specs.List.{range_with_len, reduce}
use Rattle.std.specs.Option.{option_map}
use Rattle.std.specs.Range.{range_inclusive_len, range_inclusive_start, range_inclusive_end, range_inclusive_exhausted}
use Rattle.std.specs.declared.ops.RangeInclusive.{RangeInclusive}
use Rattle.std.proofs.iter.runs.Sources.{nat_range_inclusive_steps}
use Rattle.std.proofs.lemmas.Iterator.{YieldsList}
use Rattle.std.proofs.lemmas.Iterator.Consumers.{YieldsList-from_shown}
use Rattle.std.proofs.lemmas.List.Sums.{sum_by-cons}
use Rattle.calendar.specs.Week.{total}
use Rattle.orders.specs.Standing.{num}
use Rattle.floor.specs.Floor.{greatest}

-- how many numbers a range `a..=b` has left
abbrev left : RangeInclusive ℕ → ℕ
left s = range_inclusive_len (λ x y. y - x) (range_inclusive_start s) (range_inclusive_end s) (range_inclusive_exhausted s)

abbrev shown : RangeInclusive ℕ → List ℕ
shown s = range_with_len (range_inclusive_start s) (left s)

no_length : (a n : ℕ) → n ≡ 0 → length (range_with_len a n) ≡ 0
no_length a n e = rw e refl

moves : (a b n m : ℕ) (ends : Bool) → m + 1 ≡ n → (ends ≡ true → m ≡ 0) → (ends ≡ false → b ≡ a + 1) → range_with_len a n ≡ a ∷ range_with_len b m
moves a b n m true e z f = let o : m ≡ 0 = z refl in let q : n ≡ suc 0 = omega arith in rw (q, o) refl
moves a b n m false e z f = let o : n ≡ suc m = omega arith in rw (o, f refl) refl

-- a range `a..=b` that is not spent yields the numbers from a to b
pub YieldsList-from_inclusive : {s : RangeInclusive ℕ} (a n : ℕ) → range_inclusive_start s ≡ a → left s ≡ n → YieldsList nat_range_inclusive_steps (λ x. x) s (range_with_len a n)
YieldsList-from_inclusive {s} a n d e =
    rw (← d, ← e)
    (YieldsList-from_shown nat_range_inclusive_steps (λ x. x) shown
    (λ s t h. no_length (range_inclusive_start s) (left s) h.1.0)
    (λ s x t h. rw (h.1.0) (moves (range_inclusive_start s) (range_inclusive_start t) (left s) (left t) (range_inclusive_exhausted t) h.1.1 (λ z. rw z refl) h.1.2))
    s)

-- ---- n numbers from a on

total_front : (n : ℕ) (f : ℕ → ℕ) → total (suc n) f ≡ f 0 + total n (λ k. f (suc k))
unfolding total
total_front zero f = refl
total_front (suc n) f = omega (arith, total_front n f)

pub counted : (p : ℕ → Bool) (g : ℕ → ℕ) (a n : ℕ) → ((k : ℕ) → k < n → num (p (a + k)) ≡ g k) → count_by p (range_with_len a n) ≡ total n g
unfolding total
counted p g a zero h = refl
counted p g a (suc n) h =
    let ih = counted p (λ k. g (suc k)) (a + 1) n (λ k l. ap (λ x. num (p x)) (omega arith) ∙ h (suc k) (omega arith)) in
    let here : num (p a) ≡ g 0 = ap (λ x. num (p x)) (omega arith) ∙ h 0 (omega arith) in
    sum_by-cons (λ x. num (p x)) a (range_with_len (a + 1) n) ∙ omega (arith, ih, here, total_front n g)

greatest_front : (n : ℕ) (f : ℕ → ℕ) → greatest (suc n) f ≡ max (f 0) (greatest n (λ k. f (suc k)))
unfolding greatest
greatest_front zero f = omega arith
greatest_front (suc n) f = omega (arith, greatest_front n f)

highest : (f g : ℕ → ℕ) (a n m : ℕ) → ((k : ℕ) → k < n → f (a + k) ≡ g k) → fold max m (map f (range_with_len a n)) ≡ max m (greatest n g)
unfolding greatest
highest f g a zero m h = omega arith
highest f g a (suc n) m h =
    let ih = highest f (λ k. g (suc k)) (a + 1) n (max m (f a)) (λ k l. ap f (omega arith) ∙ h (suc k) (omega arith)) in
    let here : f a ≡ g 0 = ap f (omega arith) ∙ h 0 (omega arith) in
    omega (arith, ih, here, greatest_front n g)

pub highest_of : (f g : ℕ → ℕ) (a n : ℕ) (o : Option ℕ) → ((k : ℕ) → k < n → f (a + k) ≡ g k) → option_map (λ x. x) o ≡ reduce max (map f (range_with_len a n)) → unwrap_or o 0 ≡ greatest n g
unfolding greatest
highest_of f g a zero None h e = refl
highest_of f g a zero (Some m) h e = cc
highest_of f g a (suc n) None h e = cc
highest_of f g a (suc n) (Some m) h e =
    let all = highest f (λ k. g (suc k)) (a + 1) n (f a) (λ k l. ap f (omega arith) ∙ h (suc k) (omega arith)) in
    let here : f a ≡ g 0 = ap f (omega arith) ∙ h 0 (omega arith) in
    let is : m ≡ fold max (f a) (map f (range_with_len (a + 1) n)) = cc in
    omega (arith, is, all, here, greatest_front n g)
