-- Plans: every order with a path and channels, and no cell twice.
--
--   Joins net o path        the links of the path lead from the order's one end to its other and touch no place twice
--   Placed                  an order with a path and channels
--   on p l h                the order crosses link l and runs in hour h
--   takes_cell p l c h      it takes channel c of link l in hour h
--   Apart p q               no cell is taken by both
--   Pairwise R xs           R holds of any two of the list, the earlier one first
--   Fits net p              the path joins the order's ends, and there are as many different channels as the order is wide
--   Plan net orders plan    the plan places exactly these orders; each fits, and any two are apart
--   different xs            how many different numbers stand in the list
--   channels_in plan        the channels of all orders of the plan, one after the other
--   channels_of plan        how many different channels the plan has
--   Keeps counts p          every link that the order crosses counts in the order's hours
--   own e                   an order that stands, placed on its own way
--   own_plan es             the orders that stand on their own ways
--   orders_of es            the orders that stand
--   used es                 how many different channels the orders that stand hold
--   cell_hours e            the cells that an order holds: links times channels times hours
--   channel_hours es        the cells that all of them hold
--   reported net es         the four figures of a report
use Rattle.std.specs.Prelude.{◌≡◌, ℕ, ◌+◌, ◌*◌, ◌≤◌, Bool, true, if◌then◌else◌, ◌&&◌, List, [], ◌∷◌, map, length, Some, sum_by, ◌≢◌}
use Rattle.std.specs.List.{range_with_len, flat_map, AllByRecursion}
use Rattle.network.specs.Paths.{crossing, leads, touched, has, no_twice}
use Rattle.network.specs.declared.network.Network.{Network}
use Rattle.ways.specs.declared.order.Order.{Order}
use Rattle.orders.specs.Standing.{Standing, runs_in}
use Rattle.ways.specs.Ways.{every_link}
use Rattle.floor.specs.Floor.{floor}
use Rattle.floor.specs.declared.report.Report.{Report}

-- the path leads from the order's one end to its other and touches no place twice; it has any number of links, at least one
pub record Joins (net : Network) (o : Order) (path : List ℕ) : Type 0 where
  pub some : 1 ≤ length path
  pub arrives : leads (crossing net every_link) o.from path ≡ Some o.to
  pub once : no_twice (touched (crossing net every_link) o.from path) ≡ true

-- an order with a path and channels
pub record Placed : Type 0 where
  pub order : Order
  pub path : List ℕ
  pub channels : List ℕ

-- the order crosses link l and runs in hour h
abbrev pub on : Placed → ℕ → ℕ → Bool
on p l h = has l p.path && runs_in p.order h

-- it takes channel c of link l in hour h
abbrev pub takes_cell : Placed → ℕ → ℕ → ℕ → Bool
takes_cell p l c h = on p l h && has c p.channels

-- no cell is taken by both
abbrev pub Apart : Placed → Placed → Type 0
Apart p q = (l c h : ℕ) → takes_cell p l c h ≡ true → takes_cell q l c h ≢ true

-- R holds of any two of the list
abbrev pub Pairwise : {X : Type 0} → (X → X → Type 0) → List X → Type 0
Pairwise R [] = Unit {0}
Pairwise R (x ∷ xs) = AllByRecursion (R x) xs × Pairwise R xs

-- the path joins the order's ends, and there are as many different channels as the order is wide
pub record Fits (net : Network) (p : Placed) : Type 0 where
  pub joins : Joins net p.order p.path
  pub wide : length p.channels ≡ p.order.width
  pub once : no_twice p.channels ≡ true

-- the plan places exactly these orders; each fits, and any two are apart
pub record Plan (net : Network) (orders : List Order) (plan : List Placed) : Type 0 where
  pub all : map (λ p. p.order) plan ≡ orders
  pub fit : AllByRecursion (Fits net) plan
  pub apart : Pairwise Apart plan

-- how many different numbers stand in the list: each is counted where it stands last
abbrev pub different : List ℕ → ℕ
different [] = 0
different (x ∷ xs) = (if has x xs then 0 else 1) + different xs

-- the channels of all orders of the plan, one after the other
abbrev pub channels_in : List Placed → List ℕ
channels_in plan = flat_map (λ p. p.channels) plan

-- how many different channels the plan has
abbrev pub channels_of : List Placed → ℕ
channels_of plan = different (channels_in plan)

-- every link that the order crosses counts in the order's hours
abbrev pub Keeps : (ℕ → ℕ → Bool) → Placed → Type 0
Keeps counts p = (l h : ℕ) → on p l h ≡ true → counts l h ≡ true

-- an order that stands, placed on its own way: its block of channels and its path
abbrev pub own : Standing → Placed
own e = record { order = e.order; path = e.path; channels = range_with_len e.channel e.order.width }

-- the orders that stand on their own ways
abbrev pub own_plan : List Standing → List Placed
own_plan es = map own es

-- the orders that stand
abbrev pub orders_of : List Standing → List Order
orders_of es = map (λ e. e.order) es

-- how many different channels the orders that stand hold
abbrev pub used : List Standing → ℕ
used es = channels_of (own_plan es)

-- the cells that an order holds: links times channels times hours
abbrev pub cell_hours : Standing → ℕ
cell_hours e = length e.path * (e.order.width * e.order.hours)

-- the cells that all of them hold
abbrev pub channel_hours : List Standing → ℕ
channel_hours es = sum_by cell_hours es

-- the four figures of a report
abbrev pub reported : Network → List Standing → Report
reported net es = record { used = used es; floor = floor net (orders_of es); orders = length es; channel_hours = channel_hours es }
