-- Lists of link numbers, and the paths among them.
--
--   when_there o d f       f of what o holds; d where it holds nothing
--   far_end l v            the other end of link l, where v is one end
--   crossing net free v i  where link i leads from place v, if it may be used and has v as an end
--   price_of k net i       the cost of link i
--   Ground C               what a search goes over: a cost kind, the costs of links, where they lead, and how many
--   ground k net free      the ground of a network on which the links that are free may be used
--   leads hop v p          where the list p leads from place v, each link going on where the one before it arrived
--   touched hop v p        the places that it touches, v first
--   no_twice vs            no place stands twice in vs
--   total g p              the cost of p: the costs of its links joined
--   Allowed hop m s t p    p is a path from s to t: 1 to m links that lead from s to t and touch no place twice
--   is_path hop m s t p    the same, as a test
use Rattle.std.specs.Prelude.{◌≡◌, ℕ, suc, ◌≤◌, Bool, true, false, if◌then◌else◌, ◌&&◌, List, [], ◌∷◌, length, Some, None, vec_items, vec_len, Option, ◌==◌, nat_eq, nat_le, nat_lt}
use Rattle.network.specs.Costs.{Kind}
use Rattle.network.specs.Places.{link_at}
use Rattle.network.specs.declared.link.Link.{Link}
use Rattle.network.specs.declared.network.Network.{Network}

abbrev pub when_there : {X Y : Type 0} → Option X → Y → (X → Y) → Y
when_there None d f = d
when_there (Some x) d f = f x

abbrev pub far_end : Link → ℕ → Option ℕ
far_end l v = if l.one == v then Some l.two else (if l.two == v then Some l.one else None)

unfoldable pub crossing : Network → (ℕ → Bool) → ℕ → ℕ → Option ℕ
crossing net free v i = when_there (link_at (vec_items net.links) i) None (λ l. if free i then far_end l v else None)

unfoldable pub price_of : {C : Type 0} → Kind C → Network → ℕ → C
price_of k net i = when_there (link_at (vec_items net.links) i) k.none k.price

pub record Ground (C : Type 0) : Type 0 where
  pub kind : Kind C
  pub price : ℕ → C
  pub hop : ℕ → ℕ → Option ℕ
  -- the numbers of the links are below this one
  pub numbers : ℕ

abbrev pub ground : {C : Type 0} → Kind C → Network → (ℕ → Bool) → Ground C
ground k net free = record { kind = k; price = price_of k net; hop = crossing net free; numbers = suc (vec_len net.links) }

abbrev pub leads : (ℕ → ℕ → Option ℕ) → ℕ → List ℕ → Option ℕ
leads hop v [] = Some v
leads hop v (i ∷ p) = when_there (hop v i) None (λ w. leads hop w p)

abbrev pub touched : (ℕ → ℕ → Option ℕ) → ℕ → List ℕ → List ℕ
touched hop v [] = v ∷ []
touched hop v (i ∷ p) = v ∷ when_there (hop v i) [] (λ w. touched hop w p)

abbrev pub has : ℕ → List ℕ → Bool
has v [] = false
has v (w ∷ ws) = if v == w then true else has v ws

abbrev pub no_twice : List ℕ → Bool
no_twice [] = true
no_twice (v ∷ vs) = if has v vs then false else no_twice vs

abbrev pub total : {C : Type 0} → Ground C → List ℕ → C
total g [] = g.kind.none
total g (i ∷ p) = g.kind.joined (g.price i) (total g p)

pub record Allowed (hop : ℕ → ℕ → Option ℕ) (limit s t : ℕ) (p : List ℕ) : Type 0 where
  pub some : 1 ≤ length p
  pub few : length p ≤ limit
  pub arrives : leads hop s p ≡ Some t
  pub once : no_twice (touched hop s p) ≡ true

abbrev pub is_path : (ℕ → ℕ → Option ℕ) → ℕ → ℕ → ℕ → List ℕ → Bool
is_path hop limit s t p =
    (nat_lt 0 (length p) && nat_le (length p) limit) && (when_there (leads hop s p) false (λ v. nat_eq v t) && no_twice (touched hop s p))
