-- What the definition of the chosen path names on a network, and that it is rightly named.
use Rattle.std.proofs.Common.{◌≡◌, ℕ, ◌<◌, ◌≤◌, Bool, true, false, not, ◌&&◌, eqb, leb, List, Some, None, Option, sym, refl, ap, ◌∙◌, subst, inl, inr, arith}
use Rattle.std.proofs.lemmas.Bool.{and_parts, and_from, leb-true, le-leb, eqb-false, ne_eqb, not-true, not_from_false, both_ways, cases_eq}
use Rattle.network.specs.Choice.{chosen, chosen_path, Rightly, ChosenIsLeast}
use Rattle.network.specs.Costs.{Kind, Laws}
use Rattle.network.specs.Limits.{is_place, two_places}
use Rattle.network.specs.Method.{table, picks, greedy, cell_at, Tabled}
use Rattle.network.specs.Paths.{Ground, ground}
use Rattle.network.specs.declared.network.Network.{Network}
use Rattle.network.proofs.Crossings.{ground_near, ground_within, path_ends, not_home}
use Rattle.network.proofs.Picks.{picks_none, picks_some, picks_same}
use Rattle.network.proofs.Steps.{greedy_same}
use Rattle.network.proofs.Tables.{Near}
use Rattle.network.proofs.Values.{chosen_is, chosen_none, right_some, right_none}
use Rattle.network.proofs.Walks.{walk_is_chosen, no_path}

module _ {C : Type 0} (g : Ground C) (laws : Laws g.kind) (near : Near g) (limit s t : ℕ) where
  by_picks : (s ≡ t → ⊥) → (o : Option (ℕ × C)) → picks g.kind.at_most (table g t) s limit ≡ o → Rightly g limit s t (chosen g limit s t)
  by_picks apart None e = right_none g laws near limit s t (no_path g laws near t limit s apart (picks_none laws (table g t) s limit e))
  by_picks apart (Some b) e =
      right_some g laws near limit s t _ (walk_is_chosen g laws near t limit s apart b.0 b.1 (picks_some laws (table g t) s limit b.0 b.1 e))

  rightly : Rightly g limit s t (chosen g limit s t)
  rightly =
      elim (cases_eq s t) [
        | inl e ↦ right_none g laws near limit s t (λ p a. not_home g.hop limit s t p e a)
        | inr n ↦ by_picks n (picks g.kind.at_most (table g t) s limit) refl
      ]

pub chosen_stands : {C : Type 0} (k : Kind C) → Laws k → ChosenIsLeast k
chosen_stands k laws net free from to = rightly (ground k net free) laws (ground_near net free k) net.hops from to

-- ---- two places

pub places_parts : (places s t : ℕ) → two_places places s t ≡ true → (s ≡ t → ⊥) × (s ≤ places) × (t ≤ places)
places_parts places s t e =
    let (a, n) = and_parts (is_place places s && is_place places t) (not (eqb s t)) e in
    let (b, c) = and_parts (is_place places s) (is_place places t) a in
    (eqb-false s t (not-true (eqb s t) n), leb-true s places (and_parts (leb 1 s) (leb s places) b).1, leb-true t places (and_parts (leb 1 t) (leb t places) c).1)

places_from : (places s t : ℕ) → 1 ≤ s → s ≤ places → 1 ≤ t → t ≤ places → (s ≡ t → ⊥) → two_places places s t ≡ true
places_from places s t a b c d n =
    and_from _ _ (and_from _ _ (and_from _ _ (le-leb 1 s a) (le-leb s places b)) (and_from _ _ (le-leb 1 t c) (le-leb t places d))) (not_from_false (eqb s t) (ne_eqb s t n))

-- ---- what the search gives

module _ {C : Type 0} (k : Kind C) (laws : Laws k) (net : Network) (free : ℕ → Bool) (s t : ℕ) where
  abbrev g : Ground C
  g = ground k net free

  pub chosen_outside : two_places net.places s t ≡ false → None ≡ chosen_path k net free s t
  chosen_outside e =
      sym (chosen_none g laws (ground_near net free k) net.hops s t
      (λ p a.
      let (b, c, d, f) = path_ends net free net.hops s t p a in
      both_ways _ e (places_from net.places s t b c d f (λ same. not_home g.hop net.hops s t p same a))))

  module _ (two : two_places net.places s t ≡ true) (cells : List (Option C)) (tabled : Tabled g t cells net.hops) where
    start_in : s < 33
    start_in = omega (arith, (places_parts net.places s t two).1, net.sizes.1)

    same_picks : picks k.at_most (cell_at cells) s net.hops ≡ picks k.at_most (table g t) s net.hops
    same_picks = picks_same k.at_most (cell_at cells) (table g t) s net.hops (λ j l. tabled j s l start_in)

    pub picked_few : (j : ℕ) (best : C) → Some (j, best) ≡ picks k.at_most (cell_at cells) s net.hops → j ≤ 8
    picked_few j best e = omega (arith, (picks_some laws (cell_at cells) s net.hops j best (sym e)).few, net.sizes.3)

    pub chosen_nothing : None ≡ picks k.at_most (cell_at cells) s net.hops → None ≡ chosen_path k net free s t
    chosen_nothing e =
        sym (chosen_none g laws (ground_near net free k) net.hops s t
        (no_path g laws (ground_near net free k) t net.hops s (places_parts net.places s t two).0 (picks_none laws (table g t) s net.hops (sym (e ∙ same_picks)))))

    pub chosen_walked : (j : ℕ) (best : C) → Some (j, best) ≡ picks k.at_most (cell_at cells) s net.hops → Some (greedy g best (cell_at cells) j s k.none) ≡ chosen_path k net free s t
    chosen_walked j best e =
        let picked = picks_some laws (table g t) s net.hops j best (sym (e ∙ same_picks)) in
        ap Some (greedy_same g (ground_within net free k) best (cell_at cells) (table g t) j s k.none (λ i w a l. tabled i w (omega (arith, picked.few)) l))
        ∙ sym (chosen_is g laws (ground_near net free k) net.hops s t _
        (walk_is_chosen g laws (ground_near net free k) t net.hops s (places_parts net.places s t two).0 j best picked))

  -- what is named is rightly named
  pub named_rightly : (o : Option (List ℕ)) → o ≡ chosen_path k net free s t → Rightly g net.hops s t o
  named_rightly o e = subst (Rightly g net.hops s t) (sym e) (chosen_stands k laws net free s t)
