-- Orders that stand, and the cells that they are in.
--
--   Standing            an order with its way: a first channel and a list of link numbers
--   stood r             a row of the book, as the rules speak of it
--   crosses e l         the order's path has link l
--   block_has a w c     channel c is one of the w channels from channel a up
--   takes e l c         the order has a run on channel c of link l
--   runs_in o h         hour h is one of the order's hours
--   in_cell e l c h     one of the order's runs covers the cell
--   orders_in es l c h  how many of the orders are in the cell
--   cells_on e l        how many cells of link l the order is in: width times hours, where it crosses the link
use Rattle.std.specs.Prelude.{ℕ, ◌+◌, ◌*◌, Bool, if◌then◌else◌, ◌&&◌, List, map, sum_by, nat_le, nat_lt}
use Rattle.calendar.specs.Week.{covers}
use Rattle.network.specs.Paths.{has}
use Rattle.ways.specs.declared.order.Order.{Order}
use Rattle.orders.specs.declared.row.Row.{Row}

pub record Standing : Type 0 where
  pub order : Order
  pub channel : ℕ
  pub path : List ℕ

abbrev pub stood : Row → Standing
stood r = record { order = r.order; channel = r.way.channel; path = r.way.path }

abbrev pub all_stood : List Row → List Standing
all_stood rows = map stood rows

-- 1 for yes, 0 for no
abbrev pub num : Bool → ℕ
num b = if b then 1 else 0

abbrev pub crosses : Standing → ℕ → Bool
crosses e l = has l e.path

abbrev pub block_has : ℕ → ℕ → ℕ → Bool
block_has a w c = nat_le a c && nat_lt c (a + w)

unfoldable pub takes : Standing → ℕ → ℕ → Bool
takes e l c = crosses e l && block_has e.channel e.order.width c

abbrev pub runs_in : Order → ℕ → Bool
runs_in o h = covers o.first o.hours h

unfoldable pub in_cell : Standing → ℕ → ℕ → ℕ → Bool
in_cell e l c h = takes e l c && runs_in e.order h

abbrev pub orders_in : List Standing → ℕ → ℕ → ℕ → ℕ
orders_in es l c h = sum_by (λ e. num (in_cell e l c h)) es

abbrev pub cells_on : Standing → ℕ → ℕ
cells_on e l = if crosses e l then e.order.width * e.order.hours else 0
