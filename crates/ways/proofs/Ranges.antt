-- Tests of a range of numbers, as an iterator makes them, and as the rules say them.
use Rattle.std.proofs.Common.{◌≡◌, ℕ, zero, suc, ◌+◌, Bool, true, false, not, ◌&&◌, ◌||◌, sym, refl, ap, ◌∙◌, arith}
use Rattle.std.specs.List.{list_all, range_with_len}
use Rattle.calendar.specs.Week.{any}
use Rattle.calendar.proofs.Sums.{any_cong}

swapped : (a b c : Bool) → (a || (b || c)) ≡ (b || (a || c))
swapped true true c = refl
swapped true false c = refl
swapped false b c = refl

-- the first of the numbers apart
any_front : (n : ℕ) (p : ℕ → Bool) → any (suc n) p ≡ (p 0 || any n (λ k. p (suc k)))
unfolding any
any_front zero p = refl
any_front (suc n) p = ap (λ b. p (suc n) || b) (any_front n p) ∙ swapped (p (suc n)) (p 0) (any n (λ k. p (suc k)))

turned_and : (a b : Bool) → (a && not b) ≡ not (not a || b)
turned_and true b = refl
turned_and false b = refl

pub all_range : (n a : ℕ) (p : ℕ → Bool) → list_all p (range_with_len a n) ≡ not (any n (λ k. not (p (a + k))))
unfolding any
all_range zero a p = refl
all_range (suc n) a p =
    ap (λ b. p a && b) (all_range n (a + 1) p)
    ∙ turned_and (p a) (any n (λ k. not (p (a + 1 + k))))
    ∙ ap (λ x. not (not (p x) || any n (λ k. not (p (a + 1 + k))))) (omega arith)
    ∙ ap (λ b. not (not (p (a + 0)) || b)) (any_cong n _ _ (λ k _. ap (λ x. not (p x)) (omega arith)))
    ∙ ap not (sym (any_front n (λ k. not (p (a + k)))))

-- of the numbers below n
pub all_below : (n : ℕ) (p : ℕ → Bool) → list_all p (range_with_len 0 n) ≡ not (any n (λ k. not (p k)))
all_below n p = all_range n 0 p ∙ ap not (any_cong n _ _ (λ k _. ap (λ x. not (p x)) (omega arith)))
