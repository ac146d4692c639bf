-- A planner as the rules speak of it.
--
--   seen meaning k p    rules, what the plant means and what stands, of the planner p
use Rattle.std.specs.Prelude.{vec_items}
use Rattle.calendar.specs.Meaning.{Meaning}
use Rattle.network.specs.Costs.{Kind}
use Rattle.orders.specs.Calls.{State}
use Rattle.orders.specs.Standing.{all_stood}
use Rattle.planner.specs.declared.planner.Planner.{Planner}

abbrev pub seen : {P C : Type 0} → (P → Meaning) → Kind C → Planner P C → State C
seen meaning k p = record {
  rules = record { kind = k; net = p.net; fit = p.fit };
  plant = meaning p.plant;
  standing = all_stood (vec_items p.book.rows);
}
