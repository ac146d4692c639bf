-- What the checks of a call come to.
--
--   fault_in s r     the first check of an order that fails in state s, of those that book and place share
--   joined s e       the state s once the order e is put into the plant and at the end of the book
--   Takes s c e      the call is accepted in state s, and the order e joins it
--   Refuses s c why  the call is refused, and leaves the state as it is
use Rattle.std.specs.Prelude.{◌≡◌, Option}
use Rattle.orders.specs.Book.{pushed}
use Rattle.orders.specs.Calls.{State, stands_so, refused, order_fault, answers_in, after}
use Rattle.orders.specs.Runs.{hold_all}
use Rattle.orders.specs.Standing.{Standing}
use Rattle.orders.specs.declared.call.Call.{Call}
use Rattle.orders.specs.declared.refusal.Refusal.{Refusal}
use Rattle.orders.specs.declared.request.Request.{Request}

abbrev pub fault_in : {C : Type 0} → State C → Request → Option Refusal
fault_in s r = order_fault s.rules s.plant s.standing r

abbrev pub joined : {C : Type 0} → State C → Standing → State C
joined s e = record { rules = s.rules; plant = hold_all s.plant e; standing = pushed s.standing e }

pub record Takes {C : Type 0} (s : State C) (c : Call) (e : Standing) : Type 0 where
  pub answer : stands_so e ≡ answers_in s c
  pub state : joined s e ≡ after s c

pub record Refuses {C : Type 0} (s : State C) (c : Call) (why : Refusal) : Type 0 where
  pub answer : refused why ≡ answers_in s c
  pub state : s ≡ after s c
