-- Lists of calls, each made on what the last one left.
--
--   all_answers s cs   what the calls answer, one after the other
--   after_all s cs     the state that they leave
--   Done               a call with whether it was accepted
--   standing g s ds    the standing orders of an unused book on a plant that meant s at the start, after these calls
use Rattle.std.specs.Prelude.{ℕ, Bool, ◌||◌, List, [], ◌∷◌, nat_lt}
use Rattle.calendar.specs.Meaning.{Meaning, is_held}
use Rattle.orders.specs.Calls.{Rules, Said, State, answers_in, after, fed}
use Rattle.orders.specs.Standing.{Standing, orders_in}
use Rattle.orders.specs.declared.call.Call.{Call}

unfoldable pub all_answers : {C : Type 0} → State C → List Call → List Said
all_answers s [] = []
all_answers s (c ∷ cs) = answers_in s c ∷ all_answers (after s c) cs

unfoldable pub after_all : {C : Type 0} → State C → List Call → State C
after_all s [] = s
after_all s (c ∷ cs) = after_all (after s c) cs

pub record Done : Type 0 where
  pub call : Call
  pub ok : Bool

-- a cell that is not free, in the words of the start and of the list: closed, held at the start, or one of the orders is in it
abbrev pub taken_then : Meaning → List Standing → ℕ → ℕ → ℕ → Bool
taken_then s es l c h = s.closed l c h || (is_held s l c h || nat_lt 0 (orders_in es l c h))

-- one call more
abbrev pub feed : {C : Type 0} → Rules C → Meaning → List Standing → Done → List Standing
feed g s es d = fed g (taken_then s es) s.channels es d.call d.ok

unfoldable pub fed_all : {C : Type 0} → Rules C → Meaning → List Standing → List Done → List Standing
fed_all g s es [] = es
fed_all g s es (d ∷ ds) = fed_all g s (feed g s es d) ds

abbrev pub standing : {C : Type 0} → Rules C → Meaning → List Done → List Standing
standing g s ds = fed_all g s [] ds
