-- A sum over different numbers below n is the sum over all of them.
use Rattle.std.proofs.Common.{◌≡◌, ℕ, zero, suc, ◌+◌, ◌<◌, ◌≤◌, cond, eqb, sym, refl, ap, ◌∙◌, ⊎_elim, arith}
use Rattle.std.proofs.lemmas.Bool.{cases_eq, eq-eqb, ne_eqb}
use Rattle.calendar.specs.Week.{total}
use Rattle.calendar.proofs.Sums.{total_cong, total_point, total_zero, total_some, total_ones, total_most, total_plus}

pub total_swap : (a b : ℕ) (f : ℕ → ℕ → ℕ) → total a (λ i. total b (λ j. f i j)) ≡ total b (λ j. total a (λ i. f i j))
unfolding total
total_swap zero b f = sym (total_zero b (λ j. 0) (λ k h. refl))
total_swap (suc a) b f = ap (λ x. total b (λ j. f a j) + x) (total_swap a b f) ∙ sym (total_plus b (λ j. f a j) (λ j. total a (λ i. f i j)))

abbrev hit : ℕ → ℕ → ℕ → ℕ
hit x d v = cond (eqb x d) v 0

no_hit : (x d v : ℕ) → (x ≡ d → ⊥) → hit x d v ≡ 0
no_hit x d v ne = ap (λ t. cond t v 0) (ne_eqb x d ne)

a_hit : (x d v : ℕ) → x ≡ d → hit x d v ≡ v
a_hit x d v e = ap (λ t. cond t v 0) (eq-eqb x d e)

hit_some : (x d v : ℕ) → 0 < hit x d v → x ≡ d
hit_some x d v h = ⊎_elim (λ q. q) (λ ne. absurd (omega (arith, h, no_hit x d v ne))) (cases_eq x d)

nothing : (n : ℕ) → total n (λ _. 0) ≡ 0
nothing n = total_zero n (λ _. 0) (λ _ _. refl)

point_hit : (n d : ℕ) (H : ℕ → ℕ) → d < n → total n (λ k. hit d k (H k)) ≡ H d
point_hit n d H l =
    let p = total_point n (λ k. hit d k (H k)) (λ _. 0) d l (λ k _ ne. no_hit d k (H k) (λ q. ne (sym q))) in
    omega (arith, p, nothing n, a_hit d d (H d) refl)

full : (n : ℕ) (f : ℕ → ℕ) → ((k : ℕ) → f k ≤ 1) → total n f ≡ n → (k : ℕ) → k < n → f k ≡ 1
unfolding total
full zero f b e k h = absurd (omega arith)
full (suc n) f b e k h =
    let m = total_most n f b in
    let last : f n ≡ 1 = omega (arith, e, m, b n) in
    ⊎_elim (λ (q : k ≡ n). ap f q ∙ last) (λ (q : k ≡ n → ⊥). full n f b (omega (arith, e, last)) k (let ne : k ≡ n → ⊥ = q in omega (arith, h, ne))) (cases_eq k n)

module _ (n : ℕ) (e : ℕ → ℕ) (low : (i : ℕ) → i < n → e i < n) (one : (i j : ℕ) → i < n → j < n → e i ≡ e j → i ≡ j) where
  one_hit : (d c v : ℕ) → c < n → e c ≡ d → total n (λ i. hit (e i) d v) ≡ v
  one_hit d c v l q =
      let p = total_point n (λ i. hit (e i) d v) (λ _. 0) c l (λ k h ne. no_hit (e k) d v (λ z. ne (one k c h l (z ∙ sym q)))) in
      omega (arith, p, nothing n, a_hit (e c) d v q)

  most : (d : ℕ) → total n (λ i. hit (e i) d 1) ≤ 1
  most d =
      ⊎_elim (λ z. omega (arith, z))
      (λ nz. let w = total_some n (λ i. hit (e i) d 1) (omega (arith, nz)) in omega (arith, one_hit d w.0 1 w.1 (hit_some (e w.0) d 1 w.2)))
      (cases_eq (total n (λ i. hit (e i) d 1)) 0)

  counted : total n (λ d. total n (λ i. hit (e i) d 1)) ≡ n
  counted = total_swap n n (λ d i. hit (e i) d 1) ∙ total_ones n (λ i. total n (λ d. hit (e i) d 1)) (λ i h. point_hit n (e i) (λ _. 1) (low i h))

  pub permuted : (H : ℕ → ℕ) → total n (λ i. H (e i)) ≡ total n H
  permuted H =
      total_cong n (λ i. H (e i)) (λ i. total n (λ d. hit (e i) d (H d))) (λ i h. sym (point_hit n (e i) H (low i h)))
      ∙ total_swap n n (λ i d. hit (e i) d (H d))
      ∙ total_cong n (λ d. total n (λ i. hit (e i) d (H d))) H (λ d h.
      let c = full n (λ k. total n (λ i. hit (e i) k 1)) most counted d h in
      let w = total_some n (λ i. hit (e i) d 1) (omega (arith, c)) in
      one_hit d w.0 (H d) w.1 (hit_some (e w.0) d 1 w.2))
