-- Lists of calls with room for their answers.
--
--   calls_of slots     the calls
--   answers_of slots   the answers beside them, as the listing prints them, where there are any
--   dones slots        the calls, each with whether it was accepted
use Rattle.std.specs.Prelude.{false, List, map, Option}
use Rattle.std.specs.Option.{option_map}
use Rattle.network.specs.Paths.{when_there}
use Rattle.orders.specs.Calls.{Said, said, was_accepted}
use Rattle.orders.specs.Lists.{Done}
use Rattle.orders.specs.declared.call.Call.{Call}
use Rattle.orders.specs.declared.call.Slot.{Slot}

abbrev pub calls_of : List Slot → List Call
calls_of slots = map (λ s. s.call) slots

abbrev pub answers_of : List Slot → List (Option Said)
answers_of slots = map (λ s. option_map said s.answer) slots

abbrev pub done : Slot → Done
done s = record { call = s.call; ok = when_there s.answer false (λ a. was_accepted (said a)) }

abbrev pub dones : List Slot → List Done
dones slots = map done slots
