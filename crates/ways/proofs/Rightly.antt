-- The way that an order gets is allowed, and ahead of every allowed way; where it gets none, none is allowed.
use Rattle.std.proofs.Common.{◌≡◌, ℕ, zero, suc, ◌≤◌, Bool, true, false, cond, List, [], ◌∷◌, Some, None, Option, sym, refl, ap, ◌∙◌, subst, inl, inr, arith, MatchOption}
use Rattle.std.proofs.lemmas.Bool.{cases_Bool, cases_eq, both_ways, and_parts, and_from, cond-true, cond-false}
use Rattle.network.specs.Choice.{chosen_path, Before, Rightly}
use Rattle.network.specs.Costs.{Kind, Laws}
use Rattle.network.specs.Paths.{when_there, crossing, price_of, ground, total, has, Allowed}
use Rattle.network.specs.declared.network.Network.{Network}
use Rattle.network.proofs.Finds.{chosen_stands}
use Rattle.ways.specs.Hours.{hours_fit, block_fits, block_free}
use Rattle.ways.specs.Ways.{Wanted, every_link, open_links, way_at, first_fit, cheaper, best_fit, by_fit, chosen_way}
use Rattle.ways.specs.declared.way.Way.{Way}
use Rattle.ways.specs.Right.{AllowedWay, way_cost, SameBlock, Ahead, Cheaper, Right, WayIsRight}
use Rattle.ways.specs.declared.fit.Fit.{Fit}
use Rattle.ways.specs.declared.fit.Fit.TheVariants.{First, Best}
use Rattle.ways.proofs.Fits.{fits_parts, path_in, path_out}
use Rattle.ways.proofs.Routes.{path_kept, links_free}

-- ---- the order of choice does not look at which links may be used

module _ {C : Type 0} (k : Kind C) (net : Network) (f g : ℕ → Bool) where
  total_same : (p : List ℕ) → total (ground k net f) p ≡ total (ground k net g) p
  total_same [] = refl
  total_same (i ∷ p) = ap (k.joined (price_of k net i)) (total_same p)

  before_same : (p q : List ℕ) → Before (ground k net f) p q → Before (ground k net g) p q
  before_same p q b =
      let back : total (ground k net g) p ≡ total (ground k net g) q → total (ground k net f) p ≡ total (ground k net f) q = λ e. total_same p ∙ e ∙ sym (total_same q) in
      record {
        cheap = sym (ap (λ x. k.at_most x (total (ground k net f) q)) (total_same p) ∙ ap (k.at_most (total (ground k net g) p)) (total_same q)) ∙ b.cheap;
        short = λ e. b.short (back e);
        first = λ e. b.first (back e);
      }

-- ---- one first channel

module _ {C : Type 0} (w : Wanted C) where
  abbrev AllowedOver : (ℕ → Bool) → List ℕ → Type 0
  AllowedOver free p = Allowed (crossing w.net free) w.net.hops w.order.from w.order.to p

  -- a path over the links that are open for the block may be used, and the block is free on it
  path_of_block : (a : ℕ) (p : List ℕ) → AllowedOver (open_links w a) p → AllowedOver w.may_use p
  path_of_block a p h =
      path_kept w.net (open_links w a) w.may_use w.net.hops w.order.from w.order.to p
      (λ l k. (and_parts (w.may_use l) _ (links_free w.net (open_links w a) p w.order.from w.order.to h.arrives l k)).0) h

  free_of_block : (a : ℕ) (p : List ℕ) → AllowedOver (open_links w a) p → (l : ℕ) → has l p ≡ true → block_free w.free w.order a l ≡ true
  free_of_block a p h l k = (and_parts (w.may_use l) _ (links_free w.net (open_links w a) p w.order.from w.order.to h.arrives l k)).1

  block_of_way : (y : Way) → AllowedWay w y → AllowedOver (open_links w y.channel) y.path
  block_of_way y h =
      path_kept w.net w.may_use (open_links w y.channel) w.net.hops w.order.from w.order.to y.path
      (λ l k. and_from _ _ (links_free w.net w.may_use y.path w.order.from w.order.to h.path.arrives l k) (h.free l k)) h.path

  -- what is known of the way from one first channel
  abbrev At : ℕ → Option Way → Type 0
  At a o =
      MatchOption o ((y : Way) → AllowedWay w y → y.channel ≡ a → ⊥)
      (λ x. (x.channel ≡ a) × AllowedWay w x × ((y : Way) → AllowedWay w y → y.channel ≡ a → SameBlock w x y))

  named_from : ℕ → Option (List ℕ) → Option Way
  named_from a o = when_there o None (λ p. Some (record { channel = a; path = p }))

module _ {C : Type 0} (w : Wanted C) (laws : Laws w.kind) (week : hours_fit w.order ≡ true) where
  module _ (a : ℕ) (known : a ≤ w.channels) where
    by_path : block_fits w.channels a w.order.width ≡ true → (o : Option (List ℕ)) → Rightly (ground w.kind w.net (open_links w a)) w.net.hops w.order.from w.order.to o → At w a (named_from w a o)
    unfolding named_from
    by_path fits None r = λ y h e. r y.path (subst (λ b. AllowedOver w (open_links w b) y.path) e (block_of_way w y h))
    by_path fits (Some p) r = (
      refl,
      record { week = week; known = known; fits = fits; path = path_of_block w a p r.0.path; free = free_of_block w a p r.0.path },
      λ y h e _. before_same w.kind w.net (open_links w a) every_link p y.path (r.0.best y.path (subst (λ b. AllowedOver w (open_links w b) y.path) e (block_of_way w y h))),
    )

    at_right : At w a (way_at w a)
    unfolding named_from
    at_right =
        elim (cases_Bool (block_fits w.channels a w.order.width)) [
          | inl fits ↦
              let stands = by_path fits (chosen_path w.kind w.net (open_links w a) w.order.from w.order.to) (chosen_stands w.kind laws w.net (open_links w a) w.order.from w.order.to) in
              subst (λ o. At w a (named_from w a o)) (sym (path_in w a fits)) stands
          | inr out ↦
              let none : At w a None = λ y h e. both_ways _ out (ap (λ b. block_fits w.channels b w.order.width) (sym e) ∙ h.fits) in
              subst (λ o. At w a (named_from w a o)) (sym (path_out w a out)) none
        ]

  -- ---- all first channels up to one

  abbrev Upto : Fit → ℕ → Option Way → Type 0
  Upto fit n o =
      MatchOption o ((y : Way) → AllowedWay w y → y.channel ≤ n → ⊥)
      (λ x. (x.channel ≤ n) × AllowedWay w x × ((y : Way) → AllowedWay w y → y.channel ≤ n → Ahead fit w x y))

  none_more : (n : ℕ) → ((y : Way) → AllowedWay w y → y.channel ≤ n → ⊥) → ((y : Way) → AllowedWay w y → y.channel ≡ suc n → ⊥) → (y : Way) → AllowedWay w y → y.channel ≤ suc n → ⊥
  none_more n below here y h l = elim (cases_eq y.channel (suc n)) [ inl e ↦ here y h e | inr e ↦ below y h (omega (arith, l, e)) ]

  none_yet : (y : Way) → AllowedWay w y → y.channel ≤ 0 → ⊥
  none_yet y h l = omega (arith, l, (fits_parts w.channels y.channel w.order.width h.fits).0)

  -- ---- the lowest first channel

  first_step : (n : ℕ) (o r : Option Way) → Upto First n o → At w (suc n) r → Upto First (suc n) (when_there o r (λ x. Some x))
  first_step n None None u t = none_more n u t
  first_step n None (Some x) u t = (
    omega (arith, t.0),
    t.1,
    λ y h l. elim (cases_eq y.channel (suc n)) [
      | inl e ↦ record { low = omega (arith, t.0, e); chosen = t.2 y h e }
      | inr e ↦ absurd (u y h (omega (arith, l, e)))
    ],
  )
  first_step n (Some x) r u t = (
    omega (arith, u.0),
    u.1,
    λ y h l. elim (cases_eq y.channel (suc n)) [
      | inl e ↦ record { low = omega (arith, u.0, e); chosen = λ s. absurd (omega (arith, u.0, e, s)) }
      | inr e ↦ u.2 y h (omega (arith, l, e))
    ],
  )

  first_right : (n : ℕ) → n ≤ w.channels → Upto First n (first_fit w n)
  unfolding first_fit
  first_right zero l = none_yet
  first_right (suc n) l = first_step n (first_fit w n) (way_at w (suc n)) (first_right n (omega (arith, l))) (at_right (suc n) l)

  -- ---- the cheapest path

  abbrev at_most : C → C → Bool
  at_most = w.kind.at_most

  itself : (x : C) → at_most x x ≡ true
  itself x = elim (cases_Bool (at_most x x)) [ inl e ↦ e | inr e ↦ laws.total x x e ]

  -- at one first channel the chosen path is the cheapest
  here_ahead : (n : ℕ) (x y : Way) → x.channel ≡ n → y.channel ≡ n → SameBlock w x y → Cheaper w x y
  here_ahead n x y e f s = record { cheap = (s (e ∙ sym f)).cheap; low = λ _. omega (arith, e, f); chosen = s }

  new_ahead : (n : ℕ) (x z y : Way) → x.channel ≤ n → at_most (way_cost w x) (way_cost w z) ≡ false → Cheaper w x y → y.channel ≤ n → z.channel ≡ suc n → Cheaper w z y
  new_ahead n x z y l dear c m e = record {
    cheap = laws.trans _ _ _ (laws.total _ _ dear) c.cheap;
    low = λ s. absurd (both_ways _ dear (ap (at_most (way_cost w x)) s ∙ c.cheap));
    chosen = λ s. absurd (omega (arith, m, e, s));
  }

  old_ahead : (n : ℕ) (x z y : Way) → x.channel ≤ n → at_most (way_cost w x) (way_cost w z) ≡ true → Cheaper w z y → y.channel ≡ suc n → Cheaper w x y
  old_ahead n x z y l cheap c e = record {
    cheap = laws.trans _ _ _ cheap c.cheap;
    low = λ s. omega (arith, l, e);
    chosen = λ s. absurd (omega (arith, l, e, s));
  }

  best_two : (n : ℕ) (x z : Way) → Upto Best n (Some x) → At w (suc n) (Some z) → (b : Bool) → at_most (way_cost w x) (way_cost w z) ≡ b → Upto Best (suc n) (cond b (Some x) (Some z))
  best_two n x z u t true e = (
    omega (arith, u.0),
    u.1,
    λ y h l. elim (cases_eq y.channel (suc n)) [
      | inl s ↦ old_ahead n x z y u.0 e (here_ahead (suc n) z y t.0 s (t.2 y h s)) s
      | inr s ↦ u.2 y h (omega (arith, l, s))
    ],
  )
  best_two n x z u t false e = (
    omega (arith, t.0),
    t.1,
    λ y h l. elim (cases_eq y.channel (suc n)) [
      | inl s ↦ here_ahead (suc n) z y t.0 s (t.2 y h s)
      | inr s ↦ (let m : y.channel ≤ n = omega (arith, l, s) in new_ahead n x z y u.0 e (u.2 y h m) m t.0)
    ],
  )

  best_step : (n : ℕ) (o r : Option Way) → Upto Best n o → At w (suc n) r → Upto Best (suc n) (cheaper w.kind w.net o r)
  best_step n None None u t = none_more n u t
  best_step n None (Some x) u t = (
    omega (arith, t.0),
    t.1,
    λ y h l. elim (cases_eq y.channel (suc n)) [
      | inl e ↦ here_ahead (suc n) x y t.0 e (t.2 y h e)
      | inr e ↦ absurd (u y h (omega (arith, l, e)))
    ],
  )
  best_step n (Some x) None u t = (
    omega (arith, u.0),
    u.1,
    λ y h l. elim (cases_eq y.channel (suc n)) [
      | inl e ↦ absurd (t y h e)
      | inr e ↦ u.2 y h (omega (arith, l, e))
    ],
  )
  best_step n (Some x) (Some z) u t = best_two n x z u t (at_most (way_cost w x) (way_cost w z)) refl

  best_right : (n : ℕ) → n ≤ w.channels → Upto Best n (best_fit w n)
  unfolding best_fit
  best_right zero l = none_yet
  best_right (suc n) l = best_step n (best_fit w n) (way_at w (suc n)) (best_right n (omega (arith, l))) (at_right (suc n) l)

  -- ---- all first channels

  upto_all : (fit : Fit) (o : Option Way) → Upto fit w.channels o → Right fit w o
  upto_all fit None u = λ y h. u y h h.known
  upto_all fit (Some x) u = record { allowed = u.1; ahead = λ y h. u.2 y h h.known }

  fit_right : (fit : Fit) → Right fit w (by_fit fit w)
  fit_right First = upto_all First _ (first_right w.channels (omega arith))
  fit_right Best = upto_all Best _ (best_right w.channels (omega arith))

module _ {C : Type 0} (w : Wanted C) (laws : Laws w.kind) (fit : Fit) where
  -- what chosen_way names is right
  pub way_right : Right fit w (chosen_way fit w)
  way_right =
      elim (cases_Bool (hours_fit w.order)) [
        | inl week ↦ subst (Right fit w) (sym (cond-true (hours_fit w.order) (by_fit fit w) None week)) (fit_right w laws week fit)
        | inr out ↦
            let none : Right fit w None = λ y h. both_ways _ out h.week in
            subst (Right fit w) (sym (cond-false (hours_fit w.order) (by_fit fit w) None out)) none
      ]

  -- a way that an order gets is allowed
  pub way_found : (x : Way) → chosen_way fit w ≡ Some x → AllowedWay w x
  way_found x e = let r : Right fit w (Some x) = subst (Right fit w) e way_right in r.allowed

  -- and ahead of every allowed way
  pub way_ahead : (x : Way) → chosen_way fit w ≡ Some x → (y : Way) → AllowedWay w y → Ahead fit w x y
  way_ahead x e = let r : Right fit w (Some x) = subst (Right fit w) e way_right in r.ahead

  -- an order gets no way only where none is allowed
  pub way_none : chosen_way fit w ≡ None → (x : Way) → AllowedWay w x → ⊥
  way_none e = let r : Right fit w None = subst (Right fit w) e way_right in r

-- a block of at least one channel that fits starts at one of the channels
pub channel_known : (cs a width : ℕ) → 1 ≤ width → block_fits cs a width ≡ true → a ≤ cs
channel_known cs a width l e = omega (arith, l, (fits_parts cs a width e).1)

pub way_stands : {C : Type 0} (k : Kind C) → Laws k → WayIsRight k
way_stands k laws fit w e = way_right w (subst Laws (sym e) laws) fit
