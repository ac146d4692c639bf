-- The law over every list of calls.
--
--   Lawful g s m es r             what holds of the standing orders es on a plant that meant s at the start and means m
--                                 now, and of the report r on them
--   Served before slots after served r   the slots were served, each call on what the last one left: the answers, the
--                                 state and the report are those that the rules give, and where no order stood before,
--                                 the law holds
use Rattle.std.specs.Prelude.{◌≡◌, ℕ, ◌+◌, ◌≤◌, true, List, [], map, Some, sum_by}
use Rattle.calendar.specs.Meaning.{Meaning, is_held, held_count}
use Rattle.network.specs.Paths.{no_twice}
use Rattle.orders.specs.Calls.{Rules, State}
use Rattle.orders.specs.Lists.{all_answers, after_all, standing}
use Rattle.orders.specs.Standing.{Standing, orders_in, cells_on}
use Rattle.orders.specs.declared.call.Slot.{Slot}
use Rattle.floor.specs.Floor.{floor}
use Rattle.floor.specs.Plans.{Placed, Plan, channels_of, own_plan, orders_of, reported}
use Rattle.floor.specs.declared.report.Report.{Report}
use Rattle.planner.specs.Slots.{calls_of, answers_of, dones}

pub record Lawful {C : Type 0} (g : Rules C) (s m : Meaning) (es : List Standing) (r : Report) : Type 0 where
  -- each link's held count is that of the start, plus width times hours for every standing order that crosses the link
  pub held_counts : (l : ℕ) → held_count m l ≡ held_count s l + sum_by (λ e. cells_on e l) es
  -- at most one standing order is in a cell, and none in a cell that is closed or was held at the start
  pub one_in_a_cell : (l c h : ℕ) → orders_in es l c h ≤ 1
  pub none_where_closed : (l c h : ℕ) → s.closed l c h ≡ true → orders_in es l c h ≡ 0
  pub none_where_held : (l c h : ℕ) → is_held s l c h ≡ true → orders_in es l c h ≡ 0
  -- the floor reported is that of the standing orders; every plan for them on the network has at least as many
  -- channels; the planner's own ways are such a plan, and used is the number of its channels
  pub floor_reported : r.floor ≡ floor g.net (orders_of es)
  pub below_every_plan : (plan : List Placed) → Plan g.net (orders_of es) plan → r.floor ≤ channels_of plan
  pub own_ways_planned : Plan g.net (orders_of es) (own_plan es)
  pub used_reported : r.used ≡ channels_of (own_plan es)
  -- the plant is the same one: sizes, limit and closed cells have not changed
  pub same_links : m.links ≡ s.links
  pub same_channels : m.channels ≡ s.channels
  pub same_limit : m.limit ≡ s.limit
  pub same_closed : m.closed ≡ s.closed

pub record Served {C : Type 0} (before : State C) (slots : List Slot) (after : State C) (served : List Slot) (r : Report) : Type 0 where
  pub calls : calls_of served ≡ calls_of slots
  pub answers : answers_of served ≡ map Some (all_answers before (calls_of slots))
  -- network, cost kind and fit are the same ones, since no call changes the rules of a state
  pub state : after ≡ after_all before (calls_of slots)
  -- no two orders that stand have one number
  pub numbers : no_twice (map (λ e. e.order.number) after.standing) ≡ true
  pub report : r ≡ reported before.rules.net after.standing
  pub law : before.standing ≡ [] → Lawful before.rules before.plant after.plant (standing before.rules before.plant (dones served)) r
