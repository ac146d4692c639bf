-- What each call answers and leaves, for every plant, every list of standing orders and every argument.
--
--   Rules C                what a planner goes by besides plant and book: a cost kind, a network, a fit
--   Said                   an answer as the listing prints it: a number, 0 where the call was accepted, and values
--   said a                 an answer of the code, as the listing prints it
--   order_of r, along o w  the order that a request asks for; the order with a way
--   way_for g taken cs o   the way that the search names for the order, where `taken` says which cells are not free
--   order_fault g m es r   the first check of an order that fails, of those that book and place share
--   answer g m es c        what the call answers where the plant means m and es stand
--   plant_after g m es c   what the plant means then
--   orders_after g m es c  what stands then
--   State C                rules, what the plant means, and what stands
--   answers_in s c         what the call answers in a state; after s c is the state that it leaves
use Rattle.std.specs.Prelude.{ℕ, ◌*◌, Bool, if◌then◌else◌, not, ◌&&◌, List, [], ◌∷◌, ◌++◌, length, Some, None, Ok, Err, vec_len, Option, Result, nat_le, nat_lt}
use Rattle.calendar.specs.Meaning.{Meaning, room_of, taken, accepted}
use Rattle.network.specs.Costs.{Kind}
use Rattle.network.specs.Limits.{two_places}
use Rattle.network.specs.Paths.{when_there}
use Rattle.network.specs.declared.network.Network.{Network}
use Rattle.ways.specs.Hours.{hours_fit, block_fits, run_free}
use Rattle.ways.specs.Routes.{route_numbers, is_route}
use Rattle.ways.specs.Ways.{chosen_way, every_link}
use Rattle.ways.specs.declared.way.Way.{Way}
use Rattle.ways.specs.declared.fit.Fit.{Fit}
use Rattle.ways.specs.declared.order.Order.{Order}
use Rattle.ways.specs.declared.route.Route.{Route}
use Rattle.orders.specs.Book.{stands, pick, strike, at_hour, moved}
use Rattle.orders.specs.Numbers.{refusal_number, refusal_place}
use Rattle.orders.specs.Runs.{hold_all, release_all, first_fault, own_cells}
use Rattle.orders.specs.Standing.{Standing, stood}
use Rattle.orders.specs.declared.call.Accepted.{Accepted}
use Rattle.orders.specs.declared.call.Accepted.TheVariants.{Stands, Cancelled}
use Rattle.orders.specs.declared.call.Call.{Call}
use Rattle.orders.specs.declared.call.Call.TheVariants.{Book, Place, Cancel, Shift}
use Rattle.orders.specs.declared.refusal.Refusal.{Refusal}
use Rattle.orders.specs.declared.refusal.Refusal.TheVariants.{FewerLinks, BadNumber, BadEnds, BadWidth, BadHours, StandsAlready, BookFull, NoWay, NotAPath, BadBlock, NoRoom, NotStanding}
use Rattle.orders.specs.declared.request.Request.{Request}

pub record Rules (C : Type 0) : Type 0 where
  pub kind : Kind C
  pub net : Network
  pub fit : Fit

-- ---- answers
pub record Said : Type 0 where
  pub number : ℕ
  pub values : List ℕ

-- number, first channel, first hour, count of links, links
abbrev pub stands_so : Standing → Said
stands_so e = record { number = 0; values = e.order.number ∷ e.channel ∷ e.order.first ∷ length e.path ∷ e.path }

abbrev pub cancelled : ℕ → Said
cancelled n = record { number = 0; values = n ∷ [] }

-- the refusal's number; link, channel and hour
abbrev pub refused : Refusal → Said
refused why = record { number = refusal_number why; values = (refusal_place why).link ∷ (refusal_place why).channel ∷ (refusal_place why).hour ∷ [] }

abbrev pub said : Result Accepted Refusal → Said
said (Ok (Stands row)) = stands_so (stood row)
said (Ok (Cancelled n)) = cancelled n
said (Err why) = refused why

abbrev pub unless : Option Refusal → Said → Said
unless None x = x
unless (Some why) x = refused why

-- ---- requests and ways
abbrev pub order_of : Request → Order
order_of r = record { number = r.number; from = r.from; to = r.to; width = r.width; first = r.first; hours = r.hours }

abbrev pub along : Order → Way → Standing
along o w = record { order = o; channel = w.channel; path = w.path }

abbrev pub given : ℕ → Route → Way
given a p = record { channel = a; path = route_numbers p }

unfoldable pub way_for : {C : Type 0} → Rules C → (ℕ → ℕ → ℕ → Bool) → ℕ → Order → Option Way
way_for g taken cs o = chosen_way g.fit (record { kind = g.kind; net = g.net; may_use = every_link; free = run_free taken o; channels = cs; order = o })

-- ---- checks
-- 1 to 9,999
abbrev pub number_fits : ℕ → Bool
number_fits n = nat_le 1 n && nat_le n 9999

-- 1 to 4 channels
abbrev pub width_fits : ℕ → Bool
width_fits w = nat_le 1 w && nat_le w 4

abbrev pub order_fault : {C : Type 0} → Rules C → Meaning → List Standing → Request → Option Refusal
order_fault g m es r =
    if nat_lt m.links (vec_len g.net.links) then Some FewerLinks
    else if not (number_fits r.number) then Some BadNumber
    else if not (two_places g.net.places r.from r.to) then Some BadEnds
    else if not (width_fits r.width) then Some BadWidth
    else if not (hours_fit (order_of r)) then Some BadHours
    else if stands r.number es then Some StandsAlready
    else if nat_le 64 (length es) then Some BookFull
    else None

-- the number of runs that the order has
abbrev pub runs_needed : Standing → ℕ
runs_needed e = length e.path * e.order.width

-- there is room for every run of the order; the last check
abbrev pub if_room : Meaning → Standing → Said
if_room m e = if nat_lt (room_of m) (runs_needed e) then refused NoRoom else stands_so e

abbrev pub book_answer : {C : Type 0} → Rules C → Meaning → List Standing → Request → Said
book_answer g m es r =
    unless (order_fault g m es r)
    (when_there (way_for g (taken m) m.channels (order_of r)) (refused NoWay) (λ w. if_room m (along (order_of r) w)))

abbrev pub place_answer : {C : Type 0} → Rules C → Meaning → List Standing → Request → ℕ → Route → Said
place_answer g m es r a p =
    unless (order_fault g m es r)
    (if not (is_route g.net r.from r.to p) then refused NotAPath
    else if not (block_fits m.channels a r.width) then refused BadBlock
    else unless (first_fault m (own_cells None) (along (order_of r) (given a p))) (if_room m (along (order_of r) (given a p))))

abbrev pub cancel_answer : List Standing → ℕ → Said
cancel_answer es n = if stands n es then cancelled n else refused NotStanding

abbrev pub shift_answer : Meaning → List Standing → ℕ → ℕ → Said
shift_answer m es n f =
    if not (stands n es) then refused NotStanding
    else if not (nat_lt f 168) then refused BadHours
    else unless (first_fault m (own_cells (Some (pick n es))) (at_hour f (pick n es))) (stands_so (at_hour f (pick n es)))

abbrev pub answer : {C : Type 0} → Rules C → Meaning → List Standing → Call → Said
answer g m es (Book r) = book_answer g m es r
answer g m es (Place r a p) = place_answer g m es r a p
answer g m es (Cancel n) = cancel_answer es n
answer g m es (Shift n f) = shift_answer m es n f

-- ---- what a call leaves
abbrev pub was_accepted : Said → Bool
was_accepted s = accepted s.number

-- what an accepted call does to the plant
abbrev pub effect : {C : Type 0} → Rules C → Meaning → List Standing → Call → Meaning
effect g m es (Book r) = when_there (way_for g (taken m) m.channels (order_of r)) m (λ w. hold_all m (along (order_of r) w))
effect g m es (Place r a p) = hold_all m (along (order_of r) (given a p))
effect g m es (Cancel n) = release_all m (pick n es)
effect g m es (Shift n f) = hold_all (release_all m (pick n es)) (at_hour f (pick n es))

-- what stands after a call, fed its arguments and whether it was accepted; a booked order gets the way that the
-- search names where `taken` says which cells are not free and there are cs channels
abbrev pub fed : {C : Type 0} → Rules C → (ℕ → ℕ → ℕ → Bool) → ℕ → List Standing → Call → Bool → List Standing
fed g taken cs es (Book r) ok = if ok then when_there (way_for g taken cs (order_of r)) es (λ w. es ++ (along (order_of r) w ∷ [])) else es
fed g taken cs es (Place r a p) ok = if ok then es ++ (along (order_of r) (given a p) ∷ []) else es
fed g taken cs es (Cancel n) ok = if ok then strike n es else es
fed g taken cs es (Shift n f) ok = if ok then moved n f es else es

abbrev pub plant_after : {C : Type 0} → Rules C → Meaning → List Standing → Call → Meaning
plant_after g m es c = if was_accepted (answer g m es c) then effect g m es c else m

abbrev pub orders_after : {C : Type 0} → Rules C → Meaning → List Standing → Call → List Standing
orders_after g m es c = fed g (taken m) m.channels es c (was_accepted (answer g m es c))

-- ---- the same in one record
pub record State (C : Type 0) : Type 0 where
  pub rules : Rules C
  pub plant : Meaning
  pub standing : List Standing

abbrev pub answers_in : {C : Type 0} → State C → Call → Said
answers_in s c = answer s.rules s.plant s.standing c

abbrev pub after : {C : Type 0} → State C → Call → State C
after s c = record { rules = s.rules; plant = plant_after s.rules s.plant s.standing c; standing = orders_after s.rules s.plant s.standing c }
