-- Sums over the standing orders, whatever is summed.
use Rattle.std.proofs.Common.{◌≡◌, ℕ, ◌+◌, true, false, eqb, List, [], ◌∷◌, ◌++◌, sum_by, refl, ⊎_elim, arith}
use Rattle.std.proofs.lemmas.List.Sums.{sum_by-cons}
use Rattle.std.proofs.lemmas.Bool.{cases_Bool, both_ways}
use Rattle.orders.specs.Book.{stands, pick, strike, at_hour, moved}
use Rattle.orders.specs.Standing.{Standing}

pub sum_push : (g : Standing → ℕ) (es : List Standing) (e : Standing) → sum_by g (es ++ (e ∷ [])) ≡ g e + sum_by g es
sum_push g [] e = omega (arith, sum_by-cons g e [])
sum_push g (r ∷ rs) e = omega (arith, sum_by-cons g r (rs ++ (e ∷ [])), sum_by-cons g r rs, sum_push g rs e)

pub sum_strike : (g : Standing → ℕ) (n : ℕ) (es : List Standing) → stands n es ≡ true → sum_by g es ≡ g (pick n es) + sum_by g (strike n es)
unfolding stands pick strike
sum_strike g n [] st = absurd (both_ways false refl st)
sum_strike g n (e ∷ es) st = ⊎_elim
    (λ (b : eqb e.order.number n ≡ true). rw b (sum_by-cons g e es))
    (λ (b : eqb e.order.number n ≡ false). rw b (omega (arith, sum_by-cons g e es, sum_by-cons g e (strike n es), sum_strike g n es (rw b at st))))
    (cases_Bool (eqb e.order.number n))

pub sum_moved : (g : Standing → ℕ) (n f : ℕ) (es : List Standing) → stands n es ≡ true → sum_by g (moved n f es) ≡ g (at_hour f (pick n es)) + sum_by g (strike n es)
unfolding stands pick strike moved
sum_moved g n f [] st = absurd (both_ways false refl st)
sum_moved g n f (e ∷ es) st = ⊎_elim
    (λ (b : eqb e.order.number n ≡ true). rw b (sum_by-cons g (at_hour f e) es))
    (λ (b : eqb e.order.number n ≡ false). rw b (omega (arith, sum_by-cons g e (moved n f es), sum_by-cons g e (strike n es), sum_moved g n f es (rw b at st))))
    (cases_Bool (eqb e.order.number n))
