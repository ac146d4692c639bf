-- Where the links of a network lead.
use Rattle.std.proofs.Common.{◌≡◌, ℕ, zero, suc, ◌≤◌, Bool, true, false, cond, eqb, ◌⊎◌, List, [], ◌∷◌, length, get_or, Some, None, Option, sym, refl, ap, ◌∙◌, inl, inr, arith}
use Rattle.std.specs.List.{slice_get}
use Rattle.std.proofs.lemmas.Option.{slice_get-get_or, slice_get_past}
use Rattle.std.proofs.lemmas.Bool.{eqb-true, eq-eqb, cases_Bool, cond-true, cond-false, both_ways, cases_lt}
use Rattle.network.specs.Costs.{Kind}
use Rattle.network.specs.Ends.{Inside, AllInside}
use Rattle.network.specs.Paths.{when_there, far_end, crossing, price_of, ground, leads, touched, has, no_twice, Allowed}
use Rattle.network.specs.Places.{link_at}
use Rattle.network.specs.declared.link.Link.{Link}
use Rattle.network.specs.declared.network.Network.{Network}
use Rattle.network.proofs.Choosing.{clash, some_same, there}
use Rattle.network.proofs.Tables.{Near, Within}

-- ---- one link

numbered : (places : ℕ) (links : List Link) (i : ℕ) (l : Link) → AllInside places links → link_at links i ≡ Some l → (i ≤ length links) × Inside places l
numbered places links zero l all e = absurd (clash None l refl e)
numbered places links (suc i) l all e =
    elim (cases_lt i (length links)) [
      | inl h ↦
          let same : get_or links i l ≡ l = some_same _ _ (sym (slice_get-get_or links i l h) ∙ e) in
          (omega arith, rw same at (all i l (omega arith) h))
      | inr h ↦ absurd (clash (slice_get links i) l (slice_get_past links i h) e)
    ]

-- a cond that gives something, and nothing otherwise
opened : (b : Bool) (o : Option ℕ) (w : ℕ) → cond b o None ≡ Some w → o ≡ Some w
opened true o w e = e
opened false o w e = absurd (clash None w refl e)

across : (l : Link) (v w : ℕ) → far_end l v ≡ Some w → ((v ≡ l.one) × (w ≡ l.two)) ⊎ ((v ≡ l.two) × (w ≡ l.one))
across l v w e =
    elim (cases_Bool (eqb l.one v)) [
      | inl h ↦ inl (sym (eqb-true _ _ h), sym (some_same _ _ (sym (cond-true _ _ _ h) ∙ e)))
      | inr h ↦ (let f = sym (cond-false _ _ _ h) ∙ e in
          elim (cases_Bool (eqb l.two v)) [
            | inl k ↦ inr (sym (eqb-true _ _ k), sym (some_same _ _ (sym (cond-true _ _ _ k) ∙ f)))
            | inr k ↦ absurd (clash None w refl (sym (cond-false _ (Some l.one) None k) ∙ f))
          ])
    ]

-- ---- a crossing

module _ (net : Network) (free : ℕ → Bool) where
  crossed : (v i w : ℕ) → crossing net free v i ≡ Some w → (l : Link) × (link_at net.links.items i ≡ Some l) × (far_end l v ≡ Some w)
  unfolding crossing
  crossed v i w e =
      let (l, a, b) = there (link_at net.links.items i) (λ l. cond (free i) (far_end l v) None) w e in
      (l, a, opened (free i) (far_end l v) w b)

  -- it is over a link of the network, and both ends are places
  pub crossing_ends : (v i w : ℕ) → crossing net free v i ≡ Some w → (i ≤ length net.links.items) × (1 ≤ v) × (v ≤ net.places) × (1 ≤ w) × (w ≤ net.places)
  crossing_ends v i w e =
      let (l, a, b) = crossed v i w e in
      let (n, inside) = numbered net.places net.links.items i l net.within a in
      elim (across l v w b) [
        | inl h ↦ (n, omega (arith, h.0, h.1, l.ends), omega (arith, h.0, h.1, l.ends), omega (arith, h.0, h.1, l.ends), omega (arith, h.0, h.1, l.ends))
        | inr h ↦ (n, omega (arith, h.0, h.1, l.ends), omega (arith, h.0, h.1, l.ends), omega (arith, h.0, h.1, l.ends), omega (arith, h.0, h.1, l.ends))
      ]

  pub ground_near : {C : Type 0} (k : Kind C) → Near (ground k net free)
  ground_near k v i w e = omega (arith, (crossing_ends v i w e).0, net.links.ok.0)

  pub ground_within : {C : Type 0} (k : Kind C) → Within (ground k net free)
  ground_within k v i w e = omega (arith, (crossing_ends v i w e).4, net.sizes.1)

  -- ---- what a list of links arrives at

  leads_to : (q : List ℕ) (v i w t : ℕ) → crossing net free v i ≡ Some w → leads (crossing net free) w q ≡ Some t → (1 ≤ t) × (t ≤ net.places)
  leads_to [] v i w t h e = let p = crossing_ends v i w h in let s = some_same w t e in (omega (arith, p.3), omega (arith, p.4))
  leads_to (j ∷ q) v i w t h e =
      let (x, k, r) = there (crossing net free w j) (λ x. leads (crossing net free) x q) t e in
      leads_to q w j x t k r

  -- a path goes from a place to a place
  pub path_ends : (limit s t : ℕ) (p : List ℕ) → Allowed (crossing net free) limit s t p → (1 ≤ s) × (s ≤ net.places) × (1 ≤ t) × (t ≤ net.places)
  path_ends limit s t [] a = absurd (omega (arith, a.some))
  path_ends limit s t (i ∷ q) a =
      let (w, h, r) = there (crossing net free s i) (λ w. leads (crossing net free) w q) t a.arrives in
      let p = crossing_ends s i w h in
      let z = leads_to q s i w t h r in
      (p.1, p.2, z.0, z.1)

-- ---- no path comes home

end_touched : (hop : ℕ → ℕ → Option ℕ) (q : List ℕ) (w t : ℕ) → leads hop w q ≡ Some t → has t (touched hop w q) ≡ true
end_touched hop [] w t e = cond-true _ _ _ (eq-eqb t w (sym (some_same w t e)))
end_touched hop (i ∷ q) w t e =
    let (x, h, r) = there (hop w i) (λ x. leads hop x q) t e in
    elim (cases_Bool (eqb t w)) [
      | inl b ↦ cond-true _ _ _ b
      | inr b ↦ cond-false _ _ _ b ∙ ap (λ o. has t (when_there o [] (λ x. touched hop x q))) h ∙ end_touched hop q x t r
    ]

pub not_home : (hop : ℕ → ℕ → Option ℕ) (limit s t : ℕ) (p : List ℕ) → s ≡ t → Allowed hop limit s t p → ⊥
not_home hop limit s t [] same a = omega (arith, a.some)
not_home hop limit s t (i ∷ q) same a =
    let (w, h, r) = there (hop s i) (λ w. leads hop w q) t a.arrives in
    let back : has s (touched hop w q) ≡ true = ap (λ x. has x (touched hop w q)) same ∙ end_touched hop q w t r in
    let twice : no_twice (touched hop s (i ∷ q)) ≡ false = ap (λ o. no_twice (s ∷ when_there o [] (λ x. touched hop x q))) h ∙ cond-true _ _ _ back in
    both_ways (no_twice (touched hop s (i ∷ q))) twice a.once

-- ---- what is read of a link

pub crossing_open : (net : Network) (free : ℕ → Bool) (i : ℕ) (l : Link) → link_at net.links.items i ≡ Some l → free i ≡ true → (v : ℕ) → crossing net free v i ≡ far_end l v
unfolding crossing
crossing_open net free i l e f v = ap (λ o. when_there o None (λ l. cond (free i) (far_end l v) None)) e ∙ cond-true _ _ _ f

pub crossing_absent : (net : Network) (free : ℕ → Bool) (i : ℕ) → link_at net.links.items i ≡ None → (v : ℕ) → crossing net free v i ≡ None
unfolding crossing
crossing_absent net free i e v = ap (λ o. when_there o None (λ l. cond (free i) (far_end l v) None)) e

shut : (b : Bool) (v : ℕ) (o : Option Link) → b ≡ false → when_there o None (λ l. cond b (far_end l v) None) ≡ None
shut b v None f = refl
shut b v (Some l) f = cond-false _ _ _ f

pub crossing_shut : (net : Network) (free : ℕ → Bool) (i : ℕ) → free i ≡ false → (v : ℕ) → crossing net free v i ≡ None
unfolding crossing
crossing_shut net free i f v = shut (free i) v (link_at net.links.items i) f

pub price_is : {C : Type 0} (k : Kind C) (net : Network) (i : ℕ) (l : Link) → link_at net.links.items i ≡ Some l → price_of k net i ≡ k.price l
unfolding price_of
price_is k net i l e = ap (λ o. when_there o k.none k.price) e

pub price_absent : {C : Type 0} (k : Kind C) (net : Network) (i : ℕ) → link_at net.links.items i ≡ None → price_of k net i ≡ k.none
unfolding price_of
price_absent k net i e = ap (λ o. when_there o k.none k.price) e

-- a link that may be used leads where it would if all might be
pub crossing_free : (net : Network) (free : ℕ → Bool) (i : ℕ) → free i ≡ true → (v : ℕ) → crossing net free v i ≡ crossing net (λ _. true) v i
unfolding crossing
crossing_free net free i f v = ap (λ b. when_there (link_at net.links.items i) None (λ l. cond b (far_end l v) None)) f
