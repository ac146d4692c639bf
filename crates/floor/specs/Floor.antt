-- The floor: a number of channels that no plan of the orders can go below.
--
--   greatest n f                 the greatest of f 0, .., f (n - 1); 0 where n is 0
--   has_end k v                  place v is an end of the link
--   touches net l v              there is a link l, and place v is one of its ends
--   ends_at o v                  place v is where the order begins or ends
--   share o v h                  the order's width at place v in hour h; 0 where it does not end there or not run then
--   load orders v h              the widths of the orders that end at v and run in h, added up
--   always l h                   every link counts in every hour
--   links_at counts net v h      how many of the links that count in hour h have v as an end
--   rounded_up w k               w divided by k and rounded up; 0 where k is 0
--   need counts net orders v h   how many channels the links at v must have for the load there in hour h
--   busiest counts net orders v  the greatest need at v over the hours of the week
--   floor_by counts net orders   the greatest need over all places and all hours of the week
--   floor net orders             the same, where every link counts
use Rattle.std.specs.Prelude.{ℕ, zero, suc, ◌+◌, ◌-◌, ◌/◌, max, Bool, true, false, if◌then◌else◌, ◌&&◌, ◌||◌, List, vec_items, vec_len, sum_by, ◌==◌}
use Rattle.calendar.specs.Week.{total}
use Rattle.network.specs.Paths.{when_there}
use Rattle.network.specs.Places.{link_at}
use Rattle.network.specs.declared.link.Link.{Link}
use Rattle.network.specs.declared.network.Network.{Network}
use Rattle.ways.specs.declared.order.Order.{Order}
use Rattle.orders.specs.Standing.{num, runs_in}

-- the greatest of f 0, .., f (n - 1); 0 where n is 0
unfoldable pub greatest : ℕ → (ℕ → ℕ) → ℕ
greatest zero f = 0
greatest (suc n) f = max (greatest n f) (f n)

-- place v is an end of the link
abbrev pub has_end : Link → ℕ → Bool
has_end k v = k.one == v || k.two == v

-- there is a link l, and place v is one of its ends
abbrev pub touches : Network → ℕ → ℕ → Bool
touches net l v = when_there (link_at (vec_items net.links) l) false (λ k. has_end k v)

-- place v is where the order begins or ends
abbrev pub ends_at : Order → ℕ → Bool
ends_at o v = o.from == v || o.to == v

-- the order's width at place v in hour h
abbrev pub share : Order → ℕ → ℕ → ℕ
share o v h = if ends_at o v && runs_in o h then o.width else 0

-- the widths of the orders that end at v and run in h, added up
abbrev pub load : List Order → ℕ → ℕ → ℕ
load orders v h = sum_by (λ o. share o v h) orders

-- every link counts in every hour
abbrev pub always : ℕ → ℕ → Bool
always l h = true

-- how many of the links that count in hour h have v as an end
abbrev pub links_at : (ℕ → ℕ → Bool) → Network → ℕ → ℕ → ℕ
links_at counts net v h = total (vec_len net.links) (λ i. num (counts (suc i) h && touches net (suc i) v))

-- w divided by k and rounded up
abbrev pub rounded_up : ℕ → ℕ → ℕ
rounded_up w k = if k == 0 then 0 else (w + (k - 1)) / k

-- how many channels the links at v must have for the load there in hour h
abbrev pub need : (ℕ → ℕ → Bool) → Network → List Order → ℕ → ℕ → ℕ
need counts net orders v h = rounded_up (load orders v h) (links_at counts net v h)

-- the greatest need at v over the hours of the week
abbrev pub busiest : (ℕ → ℕ → Bool) → Network → List Order → ℕ → ℕ
busiest counts net orders v = greatest 168 (λ h. need counts net orders v h)

-- the greatest need over all places and all hours of the week
abbrev pub floor_by : (ℕ → ℕ → Bool) → Network → List Order → ℕ
floor_by counts net orders = greatest net.places (λ v. busiest counts net orders (suc v))

-- the same, where every link counts
abbrev pub floor : Network → List Order → ℕ
floor net orders = floor_by always net orders
