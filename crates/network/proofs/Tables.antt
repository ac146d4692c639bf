-- The table of least costs: what it says of lists of links, and that a list which touches a place twice can be cut.
use Rattle.std.proofs.Common.{◌≡◌, ℕ, zero, suc, ◌<◌, ◌≤◌, Bool, true, false, cond, eqb, List, [], ◌∷◌, length, Some, None, Option, sym, refl, ap, ◌∙◌, inl, inr, arith}
use Rattle.std.proofs.lemmas.Bool.{eqb-true, eq-eqb, cases_Bool, cond-true, cond-false, both_ways}
use Rattle.network.specs.Costs.{Laws}
use Rattle.network.specs.Method.{extended, offer, table}
use Rattle.network.specs.Paths.{when_there, Ground, leads, touched, has, no_twice, total}
use Rattle.network.proofs.Choosing.{clash, some_same, there, itself, least_low, least_hit}

-- only numbers of links lead anywhere
abbrev pub Near : {C : Type 0} → Ground C → Type 0
Near g = (v i w : ℕ) → g.hop v i ≡ Some w → i < g.numbers

-- no link leads beyond the cells of a row
abbrev pub Within : {C : Type 0} → Ground C → Type 0
Within g = (v i w : ℕ) → g.hop v i ≡ Some w → w < 33

pub leads_cons : (hop : ℕ → ℕ → Option ℕ) (v i w : ℕ) (q : List ℕ) (o : Option ℕ) → hop v i ≡ Some w → leads hop w q ≡ o → leads hop v (i ∷ q) ≡ o
leads_cons hop v i w q o h e = rw h e

touched_cons : (hop : ℕ → ℕ → Option ℕ) (v i w : ℕ) (q : List ℕ) → hop v i ≡ Some w → when_there (hop v i) [] (λ x. touched hop x q) ≡ touched hop w q
touched_cons hop v i w q h = rw h

-- where an offer comes from
offered : {C : Type 0} (g : Ground C) (ahead : ℕ → Option C) (v i : ℕ) (c : C) → offer g ahead v i ≡ Some c → (w : ℕ) × (d : C) × (g.hop v i ≡ Some w) × (ahead w ≡ Some d) × (g.kind.joined (g.price i) d ≡ c)
offered g ahead v i c e =
    let (w, h, f) = there (g.hop v i) (λ w. extended g.kind.joined (g.price i) (ahead w)) c e in
    let (d, r, s) = there (ahead w) (λ d. Some (g.kind.joined (g.price i) d)) c f in
    (w, d, h, r, some_same _ _ s)

offer_is : {C : Type 0} (g : Ground C) (ahead : ℕ → Option C) (v i w : ℕ) (c : C) → g.hop v i ≡ Some w → ahead w ≡ Some c → offer g ahead v i ≡ Some (g.kind.joined (g.price i) c)
offer_is g ahead v i w c h r = rw h (rw r)

module _ {C : Type 0} (g : Ground C) (laws : Laws g.kind) (near : Near g) (t : ℕ) where
  abbrev at_most : C → C → Bool
  at_most = g.kind.at_most

  abbrev joined : C → C → C
  joined = g.kind.joined

  abbrev price : ℕ → C
  price = g.price

  abbrev hop : ℕ → ℕ → Option ℕ
  hop = g.hop

  -- a list of links that arrives costs at least what the table says
  pub low : (q : List ℕ) (v : ℕ) → leads hop v q ≡ Some t → (c : C) × (table g t (length q) v ≡ Some c) × (at_most c (total g q) ≡ true)
  low [] v e = (g.kind.none, cond-true _ _ _ (eq-eqb v t (some_same v t e)), itself laws g.kind.none)
  low (i ∷ q) v e =
      let (w, h, k) = there (hop v i) (λ w. leads hop w q) t e in
      let (c, r, l) = low q w k in
      let o = offer_is g (table g t (length q)) v i w c h r in
      let (y, s, m) = least_low laws (offer g (table g t (length q)) v) g.numbers i (joined (price i) c) (near v i w h) o in
      (y, s, laws.trans y _ _ m (laws.keeps_left (price i) c (total g q) l))

  -- what the table says is the cost of some list of links
  pub hit : (j v : ℕ) (c : C) → table g t j v ≡ Some c → (q : List ℕ) × (length q ≡ j) × (leads hop v q ≡ Some t) × (total g q ≡ c)
  hit zero v c e =
      elim (cases_Bool (eqb v t)) [
        | inl h ↦ ([], refl, ap Some (eqb-true v t h), some_same g.kind.none c (sym (cond-true _ _ _ h) ∙ e))
        | inr h ↦ absurd (clash None c refl (sym (cond-false _ (Some g.kind.none) None h) ∙ e))
      ]
  hit (suc j) v c e =
      let (i, l, o) = least_hit laws (offer g (table g t j) v) g.numbers c e in
      let (w, d, h, r, same) = offered g (table g t j) v i c o in
      let (q, len, a, cost) = hit j w d r in
      (i ∷ q, ap suc len, leads_cons hop v i w q (Some t) h a, ap (joined (price i)) cost ∙ same)

  -- from a place that is touched on the way, the rest of the way
  rest : (q : List ℕ) (w v : ℕ) → has v (touched hop w q) ≡ true → leads hop w q ≡ Some t → (p : List ℕ) × (length p ≤ length q) × (leads hop v p ≡ Some t) × (at_most (total g p) (total g q) ≡ true)
  rest [] w v m e =
      elim (cases_Bool (eqb v w)) [
        | inl h ↦ ([], omega arith, ap Some (eqb-true v w h) ∙ e, itself laws g.kind.none)
        | inr h ↦ absurd (both_ways false refl (rw h at m))
      ]
  rest (i ∷ q) w v m e =
      elim (cases_Bool (eqb v w)) [
        | inl h ↦ (i ∷ q, omega arith, rw (eqb-true v w h) e, itself laws (total g (i ∷ q)))
        | inr h ↦
            let (x, hx, k) = there (hop w i) (λ x. leads hop x q) t e in
            let (p, l, a, s) = rest q x v (sym (ap (has v) (touched_cons hop w i x q hx)) ∙ sym (cond-false _ true _ h) ∙ m) k in
            (p, omega arith, a, laws.trans _ _ _ s (laws.grows_left (total g q) (price i)))
      ]

  -- a list that touches a place twice can be cut
  pub cut : (q : List ℕ) (v : ℕ) → no_twice (touched hop v q) ≡ false → leads hop v q ≡ Some t → (p : List ℕ) × (length p < length q) × (leads hop v p ≡ Some t) × (at_most (total g p) (total g q) ≡ true)
  cut [] v m e = absurd (both_ways true m refl)
  cut (i ∷ q) v m e =
      let (w, h, k) = there (hop v i) (λ x. leads hop x q) t e in
      elim (cases_Bool (has v (touched hop w q))) [
        | inl b ↦
            let (p, l, a, s) = rest q w v b k in
            (p, omega arith, a, laws.trans _ _ _ s (laws.grows_left (total g q) (price i)))
        | inr b ↦
            let (p, l, a, s) = cut q w (sym (cond-false _ false _ b) ∙ sym (ap (λ ws. cond (has v ws) false (no_twice ws)) (touched_cons hop v i w q h)) ∙ m) k in
            (i ∷ p, omega arith, leads_cons hop v i w p (Some t) h a, laws.keeps_left (price i) _ _ s)
      ]
