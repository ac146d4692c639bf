-- The cost of a list of links, one link after the other.
use Rattle.std.proofs.Common.{◌≡◌, ℕ, zero, suc, ◌+◌, ◌≤◌, List, [], ◌∷◌, length, get_or, take, sym, refl, ap, ◌∙◌, add-one, arith, take_all}
use Rattle.network.specs.Costs.{Kind, Laws}
use Rattle.network.specs.Paths.{price_of}
use Rattle.network.specs.declared.network.Network.{Network}
use Rattle.ways.specs.Ways.{path_cost}

module _ {C : Type 0} (k : Kind C) (laws : Laws k) (net : Network) where
  -- no link has the number 0
  no_price : price_of k net 0 ≡ k.none
  unfolding price_of
  no_price = refl

  cost_suc : (xs : List ℕ) (i : ℕ) → path_cost k net (take (suc i) xs) ≡ k.joined (path_cost k net (take i xs)) (price_of k net (get_or xs i 0))
  cost_suc [] zero = sym (ap (k.joined k.none) no_price ∙ laws.left k.none)
  cost_suc [] (suc i) = sym (ap (k.joined k.none) no_price ∙ laws.left k.none)
  cost_suc (x ∷ xs) zero = laws.right (price_of k net x) ∙ sym (laws.left (price_of k net x))
  cost_suc (x ∷ xs) (suc i) =
      ap (k.joined (price_of k net x)) (cost_suc xs i) ∙ sym (laws.assoc (price_of k net x) (path_cost k net (take i xs)) (price_of k net (get_or xs i 0)))

  pub cost_more : (xs : List ℕ) (i : ℕ) (a b p : C) → a ≡ path_cost k net (take i xs) → p ≡ price_of k net (get_or xs i 0) → b ≡ k.joined a p → b ≡ path_cost k net (take (i + 1) xs)
  cost_more xs i a b p e q z =
      z ∙ ap (λ x. k.joined x p) e ∙ ap (k.joined (path_cost k net (take i xs))) q ∙ sym (ap (λ n. path_cost k net (take n xs)) (add-one i) ∙ cost_suc xs i)

  -- past the end of the list there is nothing more
  pub cost_all : (xs : List ℕ) (i n : ℕ) (a : C) → length xs ≤ i → i ≤ n → a ≡ path_cost k net (take i xs) → a ≡ path_cost k net (take n xs)
  cost_all xs i n a h l e = e ∙ ap (path_cost k net) (take_all i xs h ∙ sym (take_all n xs (omega (arith, h, l))))
