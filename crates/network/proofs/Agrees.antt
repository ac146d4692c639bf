-- The chosen path depends on nothing but which links of the network are free.
use Rattle.std.proofs.Common.{◌≡◌, ℕ, zero, suc, ◌≤◌, Bool, cond, length, None, sym, refl, ap, ◌∙◌, inl, inr, arith}
use Rattle.std.proofs.lemmas.Option.{slice_get_past}
use Rattle.std.proofs.lemmas.Bool.{cases_lt}
use Rattle.network.specs.Choice.{chosen, chosen_path}
use Rattle.network.specs.Costs.{Kind}
use Rattle.network.specs.Paths.{when_there, far_end, crossing, price_of}
use Rattle.network.specs.Places.{link_at}
use Rattle.network.specs.declared.network.Network.{Network}

module _ (net : Network) (f h : ℕ → Bool) (same : (i : ℕ) → 1 ≤ i → i ≤ net.links.len → f i ≡ h i) where
  crossing_same : (v i : ℕ) → crossing net f v i ≡ crossing net h v i
  unfolding crossing
  crossing_same v zero = refl
  crossing_same v (suc i) =
      elim (cases_lt i (length net.links.items)) [
        | inl l ↦ ap (λ b. when_there (link_at net.links.items (suc i)) None (λ l. cond b (far_end l v) None)) (same (suc i) (omega arith) (omega (arith, net.links.ok.0)))
        | inr l ↦ ap (λ o. when_there o None (λ l. cond (f (suc i)) (far_end l v) None)) (slice_get_past net.links.items i l) ∙ sym (ap (λ o. when_there o None (λ l. cond (h (suc i)) (far_end l v) None)) (slice_get_past net.links.items i l))
      ]

  pub chosen_agrees : {C : Type 0} (k : Kind C) (from to : ℕ) → chosen_path k net f from to ≡ chosen_path k net h from to
  chosen_agrees k from to =
      ap (λ hop. chosen (record { kind = k; price = price_of k net; hop = hop; numbers = suc net.links.len }) net.hops from to) (λ i v n. crossing_same v n i)
