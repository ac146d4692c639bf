-- The numbers of a route, copied one after the other.
use Rattle.std.proofs.Common.{◌≡◌, ℕ, ◌<◌, ◌≤◌, Bool, true, false, cond, eqb, List, length, get_or, Some, None, sym, refl, ap, ◌∙◌, inl, inr, arith}
use Rattle.std.proofs.lemmas.List.{length-take, get_or-take}
use Rattle.std.proofs.lemmas.Bool.{cases_Bool, and_parts, and_right, and_from, eqb-true, eq-eqb, cond-false}
use Rattle.std.specs.Bool.{then_some}
use Rattle.network.specs.Paths.{crossing, is_path, Allowed}
use Rattle.network.specs.declared.network.Network.{Network}
use Rattle.ways.specs.Ways.{every_link}
use Rattle.ways.specs.Routes.{route_numbers, is_route, Copied}
use Rattle.ways.specs.declared.route.Route.{Route}
use Rattle.ways.proofs.Routes.{path_parts, links_known}

-- ---- a route that no network has as a path

module _ (net : Network) (from to : ℕ) (r : Route) where
  -- what is known of a route that is a path
  pub route_path : is_route net from to r ≡ true → (length (route_numbers r) ≡ r.count) × Allowed (crossing net every_link) net.hops from to (route_numbers r)
  unfolding is_route
  route_path e =
      let (n, p) = and_parts (eqb (length (route_numbers r)) r.count) (is_path (crossing net every_link) net.hops from to (route_numbers r)) e in
      (eqb-true _ _ n, path_parts (crossing net every_link) net.hops from to (route_numbers r) p)

  no_route : (is_route net from to r ≡ true → ⊥) → is_route net from to r ≡ false
  no_route h = elim (cases_Bool (is_route net from to r)) [ inl e ↦ absurd (h e) | inr e ↦ e ]

  pub too_many : 8 < r.count → is_route net from to r ≡ false
  too_many h = no_route (λ e. let (n, a) = route_path e in omega (arith, h, n, a.few, net.sizes.3))

  pub too_few : (i : ℕ) → length r.links ≤ i → i < r.count → is_route net from to r ≡ false
  too_few i h l = no_route (λ e. let (n, a) = route_path e in omega (arith, h, l, n, length-take r.count r.links))

  pub too_large : (i x : ℕ) → i < r.count → x ≡ get_or r.links i 0 → 255 < x → is_route net from to r ≡ false
  too_large i x l g h =
      no_route (λ e.
      let (n, a) = route_path e in
      let known = links_known net every_link (route_numbers r) from to a.arrives i (omega (arith, l, n)) in
      omega (arith, h, g, get_or-take r.count r.links i 0 l, known.1, net.few))

-- ---- what is named

given : {X : Type 0} (x : X) (b : Bool) → then_some b x ≡ cond b (Some x) None
given x true = refl
given x false = refl

module _ (net : Network) (from to : ℕ) (r : Route) (p : List ℕ) (c : Copied r p) where
  route_test : is_route net from to r ≡ is_path (crossing net every_link) net.hops from to p
  unfolding is_route
  route_test =
      elim (cases_Bool (is_path (crossing net every_link) net.hops from to (route_numbers r))) [
        | inl e ↦ and_from _ _ (eq-eqb _ _ c.all) e ∙ sym e ∙ sym (ap (is_path (crossing net every_link) net.hops from to) c.numbers)
        | inr e ↦ and_right _ _ e ∙ sym e ∙ sym (ap (is_path (crossing net every_link) net.hops from to) c.numbers)
      ]

  pub route_named : (b : Bool) → b ≡ is_path (crossing net every_link) net.hops from to p → then_some b p ≡ cond (is_route net from to r) (Some (route_numbers r)) None
  route_named b e = given p b ∙ ap (λ x. cond x (Some p) None) (e ∙ sym route_test) ∙ ap (λ q. cond (is_route net from to r) (Some q) None) c.numbers

pub route_refused : (net : Network) (from to : ℕ) (r : Route) → is_route net from to r ≡ false → None ≡ cond (is_route net from to r) (Some (route_numbers r)) None
route_refused net from to r e = sym (cond-false (is_route net from to r) (Some (route_numbers r)) None e)
