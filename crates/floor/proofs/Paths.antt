-- A path crosses a link at each of its ends.
use Rattle.std.proofs.Common.{◌≡◌, ℕ, zero, suc, ◌<◌, ◌≤◌, true, false, eqb, List, [], ◌∷◌, length, Some, None, vec_items, vec_len, Option, sym, refl, ap, ◌∙◌, ⊎_elim, arith}
use Rattle.std.proofs.lemmas.Option.{slice_get_past}
use Rattle.std.proofs.lemmas.Bool.{cases_Bool, cases_lt, eqb-true, eq-eqb, or_cases, or_left, or_right, cond-true, cond-false, false≢true}
use Rattle.network.specs.Paths.{when_there, far_end, crossing, leads, has}
use Rattle.network.specs.Places.{link_at}
use Rattle.network.specs.declared.link.Link.{Link}
use Rattle.network.specs.declared.network.Network.{Network}
use Rattle.ways.specs.declared.order.Order.{Order}
use Rattle.ways.specs.Ways.{every_link}
use Rattle.floor.specs.Floor.{has_end, touches, ends_at}
use Rattle.floor.specs.Plans.{Joins}

-- ---- what an option holds

nothing_there : {X : Type 0} (x : X) → None ≡ Some x → ⊥
nothing_there x e = let z : ◌≡◌ {A = ℕ} 0 1 = cc in omega arith

some_same : {X : Type 0} (x y : X) → Some x ≡ Some y → x ≡ y
some_same x y e = cc

there : {X Y : Type 0} (o : Option X) (f : X → Option Y) (y : Y) → when_there o None f ≡ Some y → (x : X) × (o ≡ Some x) × (f x ≡ Some y)
there None f y e = absurd (nothing_there y e)
there (Some x) f y e = (x, refl, e)

-- ---- one link

-- both places are ends of the link
far_ends : (k : Link) (v w : ℕ) → far_end k v ≡ Some w → (has_end k v ≡ true) × (has_end k w ≡ true)
far_ends k v w e =
    ⊎_elim
    (λ (h : eqb k.one v ≡ true).
    let w-is : k.two ≡ w = some_same _ _ (sym (cond-true _ _ _ h) ∙ e) in
    (or_left _ _ h, or_right (eqb k.one w) _ (eq-eqb _ _ w-is)))
    (λ (h : eqb k.one v ≡ false).
    let f = sym (cond-false _ _ _ h) ∙ e in
    ⊎_elim
    (λ (g : eqb k.two v ≡ true).
    let w-is : k.one ≡ w = some_same _ _ (sym (cond-true _ _ _ g) ∙ f) in
    (or_right (eqb k.one v) _ g, or_left _ (eqb k.two w) (eq-eqb _ _ w-is)))
    (λ (g : eqb k.two v ≡ false). absurd (nothing_there w (sym (cond-false _ (Some k.one) None g) ∙ f)))
    (cases_Bool (eqb k.two v)))
    (cases_Bool (eqb k.one v))

module _ (net : Network) where
  crossing_touches : (v l w : ℕ) → crossing net every_link v l ≡ Some w → (touches net l v ≡ true) × (touches net l w ≡ true)
  unfolding crossing
  crossing_touches v l w e =
      let (k, a, b) = there (link_at (vec_items net.links) l) (λ k. far_end k v) w e in
      let (p, q) = far_ends k v w b in
      (ap (λ o. when_there o false (λ k. has_end k v)) a ∙ p, ap (λ o. when_there o false (λ k. has_end k w)) a ∙ q)

  -- ---- a list of links

  -- a link of the list at v
  abbrev Crossed : List ℕ → ℕ → Type 0
  Crossed path v = (l : ℕ) × (touches net l v ≡ true) × (has l path ≡ true)

  has_first : (l : ℕ) (path : List ℕ) → has l (l ∷ path) ≡ true
  has_first l path = cond-true _ _ _ (eq-eqb l l refl)

  has_later : (l m : ℕ) (path : List ℕ) → has l path ≡ true → has l (m ∷ path) ≡ true
  has_later l m path h = ⊎_elim (λ (e : eqb l m ≡ true). cond-true _ _ _ e) (λ (e : eqb l m ≡ false). cond-false _ _ _ e ∙ h) (cases_Bool (eqb l m))

  at_start : (v w l : ℕ) (path : List ℕ) → leads (crossing net every_link) v (l ∷ path) ≡ Some w → Crossed (l ∷ path) v
  at_start v w l path e =
      let (x, h, r) = there (crossing net every_link v l) (λ x. leads (crossing net every_link) x path) w e in
      (l, (crossing_touches v l x h).0, has_first l path)

  at_end : (v w l : ℕ) (path : List ℕ) → leads (crossing net every_link) v (l ∷ path) ≡ Some w → Crossed (l ∷ path) w
  at_end v w l [] e =
      let (x, h, r) = there (crossing net every_link v l) (λ x. Some x) w e in
      (l, (crossing_touches v l w (h ∙ r)).1, has_first l [])
  at_end v w l (m ∷ path) e =
      let (x, h, r) = there (crossing net every_link v l) (λ x. leads (crossing net every_link) x (m ∷ path)) w e in
      let (n, t, k) = at_end x w m path r in
      (n, t, has_later n l (m ∷ path) k)

  at_either : (o : Order) (v : ℕ) (path : List ℕ) → Joins net o path → ends_at o v ≡ true → Crossed path v
  at_either o v [] j e = absurd (omega (arith, j.some))
  at_either o v (l ∷ path) j e =
      ⊎_elim
      (λ (d : eqb o.from v ≡ true). rw (eqb-true _ _ d) at (at_start o.from o.to l path j.arrives))
      (λ (d : eqb o.to v ≡ true). rw (eqb-true _ _ d) at (at_end o.from o.to l path j.arrives))
      (or_cases (eqb o.from v) (eqb o.to v) e)

  -- links are numbered from 1 up to how many there are
  numbered : (v l : ℕ) (path : List ℕ) → touches net l v ≡ true → has l path ≡ true → (i : ℕ) × (i < vec_len net.links) × (touches net (suc i) v ≡ true) × (has (suc i) path ≡ true)
  numbered v zero path t h = absurd (false≢true t)
  numbered v (suc i) path t h =
      ⊎_elim
      (λ (k : i < length (vec_items net.links)). (i, omega (arith, k, net.links.ok.0), t, h))
      (λ (k : length (vec_items net.links) ≤ i). absurd (false≢true (sym (ap (λ o. when_there o false (λ k. has_end k v)) (slice_get_past (vec_items net.links) i k)) ∙ t)))
      (cases_lt i (length (vec_items net.links)))

  -- a path that joins the order's ends crosses a link at v, one of the two
  pub crossed_at : (o : Order) (v : ℕ) (path : List ℕ) → Joins net o path → ends_at o v ≡ true → (i : ℕ) × (i < vec_len net.links) × (touches net (suc i) v ≡ true) × (has (suc i) path ≡ true)
  crossed_at o v path j e = let (l, t, h) = at_either o v path j e in numbered v l path t h
