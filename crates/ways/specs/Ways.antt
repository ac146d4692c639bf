-- Which way an order gets.
--
--   every_link l         true: every link may be used
--   Wanted C             what is searched for, and where: a cost kind, a network, the links that may be used, the
--                        channels that are free on a link, how many channels there are, and the order
--   wanted k net may m o what is wanted where the plant means m: a channel is free that is not taken in the order's hours
--   path_at w a          the chosen path of the order's block from channel a up, over links on which it is free
--   first_fit w n        the way with the lowest first channel up to n that has a path
--   best_fit w n         the way with the cheapest chosen path; on a tie the lowest first channel up to n
--   chosen_way fit w     the way that the order gets
use Rattle.std.specs.Prelude.{ℕ, zero, suc, Bool, true, cond, ◌&&◌, List, Some, None, Option}
use Rattle.calendar.specs.Meaning.{Meaning, taken}
use Rattle.network.specs.Costs.{Kind}
use Rattle.network.specs.Paths.{when_there, ground, total}
use Rattle.network.specs.Choice.{chosen_path}
use Rattle.network.specs.declared.network.Network.{Network}
use Rattle.ways.specs.Hours.{hours_fit, block_fits, run_free, block_free, cell_at}
use Rattle.ways.specs.declared.order.Order.{Order}
use Rattle.ways.specs.declared.way.Way.{Way}
use Rattle.ways.specs.declared.fit.Fit.{Fit}
use Rattle.ways.specs.declared.fit.Fit.TheVariants.{First, Best}

-- every link may be used
abbrev pub every_link : ℕ → Bool
every_link l = true

pub record Wanted (C : Type 0) : Type 0 where
  pub kind : Kind C
  pub net : Network
  pub may_use : ℕ → Bool
  pub free : ℕ → ℕ → Bool
  pub channels : ℕ
  pub order : Order

abbrev pub wanted : {C : Type 0} → Kind C → Network → (ℕ → Bool) → Meaning → Order → Wanted C
wanted k net may m o = record { kind = k; net = net; may_use = may; free = run_free (taken m) o; channels = m.channels; order = o }

-- the same, where the free channels are noted in a table
abbrev pub noted : {C : Type 0} → Kind C → Network → (ℕ → Bool) → List Bool → ℕ → Order → Wanted C
noted k net may xs cs o = record { kind = k; net = net; may_use = may; free = cell_at xs; channels = cs; order = o }

-- the links that may be used and on which the block from channel a up is free
abbrev pub open_links : {C : Type 0} → Wanted C → ℕ → ℕ → Bool
open_links w a l = w.may_use l && block_free w.free w.order a l

unfoldable pub path_at : {C : Type 0} → Wanted C → ℕ → Option (List ℕ)
path_at w a =
    cond (block_fits w.channels a w.order.width)
    (chosen_path w.kind w.net (open_links w a) w.order.from w.order.to)
    None

abbrev pub way_at : {C : Type 0} → Wanted C → ℕ → Option Way
way_at w a = when_there (path_at w a) None (λ p. Some (record { channel = a; path = p }))

unfoldable pub first_fit : {C : Type 0} → Wanted C → ℕ → Option Way
first_fit w zero = None
first_fit w (suc n) = when_there (first_fit w n) (way_at w (suc n)) (λ x. Some x)

-- the cost of a list of links, whether or not they may be used
abbrev pub path_cost : {C : Type 0} → Kind C → Network → List ℕ → C
path_cost k net p = total (ground k net (λ _. true)) p

-- the first way, unless the second is cheaper
abbrev pub cheaper : {C : Type 0} → Kind C → Network → Option Way → Option Way → Option Way
cheaper k net None y = y
cheaper k net (Some x) None = Some x
cheaper k net (Some x) (Some y) = cond (k.at_most (path_cost k net x.path) (path_cost k net y.path)) (Some x) (Some y)

unfoldable pub best_fit : {C : Type 0} → Wanted C → ℕ → Option Way
best_fit w zero = None
best_fit w (suc n) = cheaper w.kind w.net (best_fit w n) (way_at w (suc n))

abbrev pub by_fit : {C : Type 0} → Fit → Wanted C → Option Way
by_fit First w = first_fit w w.channels
by_fit Best w = best_fit w w.channels

abbrev pub chosen_way : {C : Type 0} → Fit → Wanted C → Option Way
chosen_way fit w = cond (hours_fit w.order) (by_fit fit w) None
