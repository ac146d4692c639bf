-- What is proved of the floor.
--
--   FloorByLaw      every plan that keeps to the links that count has at least as many channels as the floor over them
--   FloorLaw        every plan has at least as many channels as the floor
--   EmptyFloor      where there are no orders the floor is 0
--   OnPath net e    the path of an order that stands joins the order's ends
--   OwnPlanLaw      orders whose paths join their ends and of which no two are in one cell are a plan as they stand
use Rattle.std.specs.Prelude.{◌≡◌, ℕ, ◌≤◌, Bool, List, []}
use Rattle.std.specs.List.{AllByRecursion}
use Rattle.network.specs.declared.network.Network.{Network}
use Rattle.ways.specs.declared.order.Order.{Order}
use Rattle.orders.specs.Standing.{Standing, orders_in}
use Rattle.floor.specs.Floor.{floor_by, floor}
use Rattle.floor.specs.Plans.{Joins, Placed, Plan, Keeps, channels_of, own_plan, orders_of}

-- for any rule by which links count in hours
abbrev pub FloorByLaw : Type 0
FloorByLaw =
    (counts : ℕ → ℕ → Bool) (net : Network) (orders : List Order) (plan : List Placed) →
    Plan net orders plan → AllByRecursion (Keeps counts) plan → floor_by counts net orders ≤ channels_of plan

-- every plan of the orders has at least as many channels as the floor
abbrev pub FloorLaw : Type 0
FloorLaw = (net : Network) (orders : List Order) (plan : List Placed) → Plan net orders plan → floor net orders ≤ channels_of plan

-- where there are no orders the floor is 0
abbrev pub EmptyFloor : Type 0
EmptyFloor = (net : Network) → floor net [] ≡ 0

-- the path of an order that stands joins the order's ends
abbrev pub OnPath : Network → Standing → Type 0
OnPath net e = Joins net e.order e.path

-- orders whose paths join their ends and of which no two are in one cell are a plan as they stand
abbrev pub OwnPlanLaw : Type 0
OwnPlanLaw =
    (net : Network) (es : List Standing) →
    AllByRecursion (OnPath net) es → ((l c h : ℕ) → orders_in es l c h ≤ 1) → Plan net (orders_of es) (own_plan es)
