-- The fewest links that reach the least cost.
use Rattle.std.proofs.Common.{◌≡◌, ℕ, zero, suc, ◌+◌, ◌≤◌, Bool, true, false, Some, None, Option, sym, refl, ap, ◌∙◌, subst, inl, inr, add-one, arith}
use Rattle.std.proofs.lemmas.Bool.{cases_Bool, cond-true, cond-false, both_ways, cases_lt}
use Rattle.network.specs.Costs.{Kind, Laws}
use Rattle.network.specs.Method.{pick_more, picks}
use Rattle.network.proofs.Choosing.{clash, itself}
use Rattle.network.proofs.Walks.{Picked}

module _ {C : Type 0} {k : Kind C} (laws : Laws k) (rows : ℕ → ℕ → Option C) (s : ℕ) where
  abbrev at_most : C → C → Bool
  at_most = k.at_most

  none_more : (b : Option (ℕ × C)) (j : ℕ) (o : Option C) → pick_more at_most b j o ≡ None → (b ≡ None) × (o ≡ None)
  none_more b j None e = (e, refl)
  none_more None j (Some c) e = absurd (clash (Some (j, c)) (j, c) e refl)
  none_more (Some b) j (Some c) e =
      elim (cases_Bool (at_most b.1 c)) [
        | inl h ↦ absurd (clash (Some b) b (sym (cond-true _ _ _ h) ∙ e) refl)
        | inr h ↦ absurd (clash (Some (j, c)) (j, c) (sym (cond-false _ _ _ h) ∙ e) refl)
      ]

  pub picks_none : (m : ℕ) → picks at_most rows s m ≡ None → (j : ℕ) → 1 ≤ j → j ≤ m → rows j s ≡ None
  picks_none zero e j a b = absurd (omega arith)
  picks_none (suc m) e j a b =
      let (p, q) = none_more (picks at_most rows s m) (m + 1) (rows (m + 1) s) e in
      elim (cases_lt m j) [
        | inl h ↦ (let same : m + 1 ≡ j = omega arith in subst (λ x. rows x s ≡ None) same q)
        | inr h ↦ picks_none m p j a h
      ]

  -- the three ways of one more row
  kept : (m k : ℕ) (b : C) → Picked at_most rows m s k b → ((c : C) → rows (m + 1) s ≡ Some c → at_most b c ≡ true) → Picked at_most rows (suc m) s k b
  kept m k b p h = record {
    some = p.some;
    few = omega (arith, p.few);
    reached = p.reached;
    least = λ j c a l e. elim (cases_lt m j) [
      | inl x ↦ (let same : j ≡ m + 1 = omega arith in h c (subst (λ y. rows y s ≡ Some c) same e))
      | inr x ↦ p.least j c a x e
    ];
    fewest = p.fewest;
  }

  taken : (m : ℕ) (c : C) → rows (m + 1) s ≡ Some c → ((j : ℕ) (d : C) → 1 ≤ j → j ≤ m → rows j s ≡ Some d → at_most d c ≡ false) → Picked at_most rows (suc m) s (m + 1) c
  taken m c r h = record {
    some = omega arith;
    few = omega arith;
    reached = r;
    least = λ j d a l e. elim (cases_lt m j) [
      | inl x ↦ (let same : j ≡ m + 1 = omega arith in let f = subst (λ y. rows y s ≡ Some d) same e in let v : c ≡ d = cc in subst (λ y. at_most c y ≡ true) v (itself laws c))
      | inr x ↦ laws.total d c (h j d a x e)
    ];
    fewest = λ j d a l e. h j d a (omega arith) e;
  }

  one_more : (m : ℕ) (b : Option (ℕ × C)) (o : Option C) → b ≡ picks at_most rows s m → o ≡ rows (m + 1) s → ((k : ℕ) (c : C) → picks at_most rows s m ≡ Some (k, c) → Picked at_most rows m s k c) → (k : ℕ) (c : C) → pick_more at_most b (m + 1) o ≡ Some (k, c) → Picked at_most rows (suc m) s k c
  one_more m b None eb eo ih k c e = kept m k c (ih k c (sym eb ∙ e)) (λ d f. absurd (clash (rows (m + 1) s) d (sym eo) f))
  one_more m None (Some d) eb eo ih k c e =
      let v : ◌≡◌ {A = ℕ × C} (m + 1, d) (k, c) = cc in
      let ek : m + 1 ≡ k = ap (λ x. x.0) v in
      let ec : d ≡ c = ap (λ x. x.1) v in
      subst (λ x. Picked at_most rows (suc m) s x c) ek (taken m c (sym eo ∙ ap Some ec) (λ j x a l f. absurd (clash (rows j s) x (picks_none m (sym eb) j a l) f)))
  one_more m (Some b) (Some d) eb eo ih k c e =
      elim (cases_Bool (at_most b.1 d)) [
        | inl h ↦
            let f : Some b ≡ Some (k, c) = sym (cond-true _ _ _ h) ∙ e in
            let v : b ≡ (k, c) = cc in
            kept m k c (ih k c (sym eb ∙ f)) (λ x g. let w : d ≡ x = cc in subst (λ y. at_most c y ≡ true) w (subst (λ y. at_most y.1 d ≡ true) v h))
        | inr h ↦
            let f : ◌≡◌ {A = Option (ℕ × C)} (Some (m + 1, d)) (Some (k, c)) = sym (cond-false _ _ _ h) ∙ e in
            let v : ◌≡◌ {A = ℕ × C} (m + 1, d) (k, c) = cc in
            let p = ih b.0 b.1 (sym eb) in
            subst (λ y. Picked at_most rows (suc m) s y.0 y.1) v (taken m d (sym eo) (λ j x a l g.
            elim (cases_Bool (at_most x d)) [
              | inl q ↦ absurd (both_ways (at_most b.1 d) h (laws.trans _ _ _ (p.least j x a l g) q))
              | inr q ↦ q
            ]))
      ]

  pub picks_some : (m k : ℕ) (c : C) → picks at_most rows s m ≡ Some (k, c) → Picked at_most rows m s k c
  picks_some zero k c e = absurd (clash None (k, c) refl e)
  picks_some (suc m) k c e = one_more m (picks at_most rows s m) (rows (m + 1) s) refl refl (picks_some m) k c e

pub picks_more : {C : Type 0} (at_most : C → C → Bool) (rows : ℕ → ℕ → Option C) (s m : ℕ) (b r : Option (ℕ × C)) (here : Option C) → b ≡ picks at_most rows s m → here ≡ rows (m + 1) s → r ≡ pick_more at_most b (m + 1) here → r ≡ picks at_most rows s (m + 1)
picks_more at_most rows s m b r here p q e =
    let done : r ≡ picks at_most rows s (suc m) = e ∙ ap (λ x. pick_more at_most x (m + 1) here) p ∙ ap (pick_more at_most (picks at_most rows s m) (m + 1)) q in
    done ∙ sym (ap (picks at_most rows s) (add-one m))

pub picks_same : {C : Type 0} (at_most : C → C → Bool) (f h : ℕ → ℕ → Option C) (s m : ℕ) → ((j : ℕ) → j ≤ m → f j s ≡ h j s) → picks at_most f s m ≡ picks at_most h s m
picks_same at_most f h s zero same = refl
picks_same at_most f h s (suc m) same =
    ap (λ b. pick_more at_most b (m + 1) (f (m + 1) s)) (picks_same at_most f h s m (λ j l. same j (omega arith)))
    ∙ ap (pick_more at_most (picks at_most h s m) (m + 1)) (same (m + 1) (omega arith))
