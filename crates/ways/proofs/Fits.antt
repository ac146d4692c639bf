-- What the search looks at, and the loops over first channels.
use Rattle.std.proofs.Common.{◌≡◌, ℕ, zero, suc, ◌+◌, ◌<◌, ◌≤◌, Bool, true, false, not, ◌&&◌, leb, Some, None, vec_len, Option, sym, refl, ap, ◌∙◌, ⊎_elim, add-one, arith}
use Rattle.std.proofs.lemmas.Bool.{cases_Bool, cases_eq, and_parts, leb-true, cond-true, cond-false}
use Rattle.calendar.proofs.Sums.{any_cong}
use Rattle.network.specs.Choice.{chosen_path}
use Rattle.network.specs.Costs.{Kind}
use Rattle.network.specs.Paths.{when_there}
use Rattle.network.specs.declared.network.Network.{Network}
use Rattle.network.proofs.Agrees.{chosen_agrees}
use Rattle.ways.specs.Hours.{block_fits, block_free}
use Rattle.ways.specs.Ways.{Wanted, open_links, path_at, way_at, first_fit, best_fit, by_fit, cheaper}
use Rattle.ways.specs.declared.way.Way.{Way}
use Rattle.ways.specs.declared.fit.Fit.{Fit}
use Rattle.ways.specs.declared.fit.Fit.TheVariants.{First, Best}
use Rattle.ways.specs.declared.order.Order.{Order}

-- the block of a first channel that fits lies within the channels
pub fits_parts : (cs a w : ℕ) → block_fits cs a w ≡ true → (1 ≤ a) × (a + w ≤ cs + 1)
fits_parts cs a w e = let p = and_parts (leb 1 a) (leb (a + w) (cs + 1)) e in (leb-true 1 a p.0, leb-true (a + w) (cs + 1) p.1)

block_same : (f h : ℕ → ℕ → Bool) (o : Order) (a l : ℕ) → ((k : ℕ) → k < o.width → f l (a + k) ≡ h l (a + k)) → block_free f o a l ≡ block_free h o a l
unfolding block_free
block_same f h o a l e = ap not (any_cong o.width _ _ (λ k b. ap not (e k b)))

module _ {C : Type 0} (w : Wanted C) where
  pub path_in : (a : ℕ) → block_fits w.channels a w.order.width ≡ true → path_at w a ≡ chosen_path w.kind w.net (open_links w a) w.order.from w.order.to
  unfolding path_at
  path_in a e = cond-true (block_fits w.channels a w.order.width) _ _ e

  pub path_out : (a : ℕ) → block_fits w.channels a w.order.width ≡ false → path_at w a ≡ None
  unfolding path_at
  path_out a e = cond-false (block_fits w.channels a w.order.width) _ _ e

  -- turns of the loops over first channels
  pub first_none : first_fit w 0 ≡ None
  unfolding first_fit
  first_none = refl

  pub first_next : (k : ℕ) → first_fit w k ≡ None → None ≡ way_at w (k + 1) → first_fit w (k + 1) ≡ None
  unfolding first_fit
  first_next k e q = ap (first_fit w) (add-one k) ∙ ap (λ x. when_there x (way_at w (suc k)) (λ y. Some y)) e ∙ sym (q ∙ ap (way_at w) (add-one k))

  pub first_found : (n k : ℕ) (x : Way) → k < n → first_fit w k ≡ None → Some x ≡ way_at w (k + 1) → Some x ≡ first_fit w n
  unfolding first_fit
  first_found zero k x h e q = absurd (omega (arith, h))
  first_found (suc n) k x h e q =
      ⊎_elim
      (λ (z : k ≡ n). sym (ap (λ y. when_there y (way_at w (suc n)) (λ v. Some v)) (ap (first_fit w) (sym z) ∙ e) ∙ sym (q ∙ ap (way_at w) (add-one k ∙ ap suc z))))
      (λ (z : k ≡ n → ⊥). sym (ap (λ y. when_there y (way_at w (suc n)) (λ v. Some v)) (sym (first_found n k x (omega (arith, h, z)) e q))))
      (cases_eq k n)

  pub best_none : best_fit w 0 ≡ None
  unfolding best_fit
  best_none = refl

  pub best_more : (k : ℕ) (b y r : Option Way) → b ≡ best_fit w k → y ≡ way_at w (k + 1) → r ≡ cheaper w.kind w.net b y → r ≡ best_fit w (k + 1)
  unfolding best_fit
  best_more k b y r e q z =
      z ∙ ap (λ x. cheaper w.kind w.net x y) e ∙ ap (cheaper w.kind w.net (best_fit w k)) (q ∙ ap (way_at w) (add-one k)) ∙ sym (ap (best_fit w) (add-one k))

-- where tests of the links that may be used, and of the channels that are free, agree on the network's links and the
-- plant's channels, they name the same way
module _ {C : Type 0} (k : Kind C) (net : Network) (cs : ℕ) (o : Order) (may might : ℕ → Bool) (f h : ℕ → ℕ → Bool)
    (allowed : (l : ℕ) → 1 ≤ l → l ≤ vec_len net.links → may l ≡ might l)
    (same : (l c : ℕ) → 1 ≤ l → l ≤ vec_len net.links → 1 ≤ c → c ≤ cs → f l c ≡ h l c) where
  one : Wanted C
  one = record { kind = k; net = net; may_use = may; free = f; channels = cs; order = o }

  other : Wanted C
  other = record { kind = k; net = net; may_use = might; free = h; channels = cs; order = o }

  path_same : (a : ℕ) → path_at one a ≡ path_at other a
  unfolding one other
  path_same a =
      ⊎_elim
      (λ (e : block_fits cs a o.width ≡ true).
      let p = fits_parts cs a o.width e in
      path_in one a e
      ∙ chosen_agrees net (open_links one a) (open_links other a)
      (λ i lo hi. ap (λ b. b && block_free f o a i) (allowed i lo hi) ∙ ap (λ b. might i && b) (block_same f h o a i (λ j q. same i (a + j) lo hi (omega (arith, p.0)) (omega (arith, p.1, q))))) k o.from o.to
      ∙ sym (path_in other a e))
      (λ (e : block_fits cs a o.width ≡ false). path_out one a e ∙ sym (path_out other a e))
      (cases_Bool (block_fits cs a o.width))

  way_same : (a : ℕ) → way_at one a ≡ way_at other a
  way_same a = ap (λ x. when_there x None (λ p. Some (record { channel = a; path = p }))) (path_same a)

  first_same : (n : ℕ) → first_fit one n ≡ first_fit other n
  unfolding first_fit
  first_same zero = refl
  first_same (suc n) = ap (λ x. when_there x (way_at one (suc n)) (λ y. Some y)) (first_same n) ∙ ap (λ x. when_there (first_fit other n) x (λ y. Some y)) (way_same (suc n))

  best_same : (n : ℕ) → best_fit one n ≡ best_fit other n
  unfolding best_fit one other
  best_same zero = refl
  best_same (suc n) = ap (λ x. cheaper k net x (way_at one (suc n))) (best_same n) ∙ ap (cheaper k net (best_fit other n)) (way_same (suc n))

  pub fit_same : (fit : Fit) → by_fit fit (record { kind = k; net = net; may_use = may; free = f; channels = cs; order = o }) ≡ by_fit fit (record { kind = k; net = net; may_use = might; free = h; channels = cs; order = o })
  unfolding one other
  fit_same First = first_same cs
  fit_same Best = best_same cs
