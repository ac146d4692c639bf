-- The chosen path: the cheapest; of these, the one with fewest links; of these, the first in dictionary order.
--
--   dict p q               p comes before q in dictionary order, or is q
--   before g p q           p is chosen rather than q, or is q
--   least_of b xs          the one of xs that comes before all others by the test b
--   all_lists n m          every list of 1 to m numbers below n
--   chosen g m s t         the chosen path from s to t of 1 to m links, over any ground
--   chosen_path k net free from to   the chosen path over the network's links that are free
--   Dict, Before           dictionary order and the order of choice, in plain words
--   Chosen g m s t p       p is a path, and comes before every other path
--   Rightly g m s t o      o is the one chosen path, or nothing where there is no path
use Rattle.std.specs.Prelude.{◌≡◌, ℕ, zero, suc, ◌≤◌, Bool, true, false, if◌then◌else◌, List, [], ◌∷◌, ◌++◌, map, length, Some, None, filter, Option, MatchOption, ◌==◌, nat_lt}
use Rattle.network.specs.Costs.{Kind}
use Rattle.network.specs.Paths.{when_there, Ground, ground, total, Allowed, is_path}
use Rattle.network.specs.declared.network.Network.{Network}

abbrev pub dict : List ℕ → List ℕ → Bool
dict [] q = true
dict (x ∷ p) [] = false
dict (x ∷ p) (y ∷ q) = if x == y then dict p q else nat_lt x y

abbrev pub before : {C : Type 0} → Ground C → List ℕ → List ℕ → Bool
before g p q =
    if g.kind.at_most (total g p) (total g q)
    then (if g.kind.at_most (total g q) (total g p) then (if length p == length q then dict p q else nat_lt (length p) (length q)) else true)
    else false

abbrev pub least_of : {X : Type 0} → (X → X → Bool) → List X → Option X
least_of b [] = None
least_of b (x ∷ xs) = when_there (least_of b xs) (Some x) (λ y. if b x y then Some x else Some y)

-- f 0 and so on up to f (n - 1), one after the other
abbrev pub each_below : {X : Type 0} → (ℕ → List X) → ℕ → List X
each_below f zero = []
each_below f (suc n) = each_below f n ++ f n

-- every list of k numbers below n
abbrev pub lists : ℕ → ℕ → List (List ℕ)
lists n zero = [] ∷ []
lists n (suc k) = each_below (λ i. map (λ q. i ∷ q) (lists n k)) n

abbrev pub all_lists : ℕ → ℕ → List (List ℕ)
all_lists n limit = each_below (λ k. lists n (suc k)) limit

unfoldable pub chosen : {C : Type 0} → Ground C → ℕ → ℕ → ℕ → Option (List ℕ)
chosen g limit s t = least_of (before g) (filter (is_path g.hop limit s t) (all_lists g.numbers limit))

abbrev pub chosen_path : {C : Type 0} → Kind C → Network → (ℕ → Bool) → ℕ → ℕ → Option (List ℕ)
chosen_path k net free from to = chosen (ground k net free) net.hops from to

abbrev pub Dict : List ℕ → List ℕ → Type 0
Dict [] q = Unit {0}
Dict (x ∷ p) [] = ⊥
Dict (x ∷ p) (y ∷ q) = (x ≤ y) × (x ≡ y → Dict p q)

pub record Before {C : Type 0} (g : Ground C) (p q : List ℕ) : Type 0 where
  pub cheap : g.kind.at_most (total g p) (total g q) ≡ true
  pub short : total g p ≡ total g q → length p ≤ length q
  pub first : total g p ≡ total g q → length p ≡ length q → Dict p q

pub record Chosen {C : Type 0} (g : Ground C) (limit s t : ℕ) (p : List ℕ) : Type 0 where
  pub path : Allowed g.hop limit s t p
  pub best : (q : List ℕ) → Allowed g.hop limit s t q → Before g p q

abbrev pub Rightly : {C : Type 0} → Ground C → ℕ → ℕ → ℕ → Option (List ℕ) → Type 0
Rightly g limit s t o =
    MatchOption o ((q : List ℕ) → Allowed g.hop limit s t q → ⊥)
    (λ p. Chosen g limit s t p × ((q : List ℕ) → Chosen g limit s t q → q ≡ p))

-- over every network the definition names the one chosen path, or nothing where there is no path
abbrev pub ChosenIsLeast : {C : Type 0} → Kind C → Type 0
ChosenIsLeast k = (net : Network) (free : ℕ → Bool) (from to : ℕ) → Rightly (ground k net free) net.hops from to (chosen_path k net free from to)
