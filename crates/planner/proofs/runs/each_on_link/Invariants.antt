use Rattle.std.proofs.Common.{◌≡◌}
use Rattle.calendar.specs.Meaning.{Meaning}
use Rattle.calendar.specs.declared.run.Run.{Run}
use Rattle.orders.specs.Runs.{on_link}
use Rattle.orders.specs.Standing.{stood}
use Rattle.planner.specs.Steps.{Steps}
use Rattle.planner.proofs.runs.each_on_link.Given as goal

abbrev pub invariant-loop-w : goal.invariant-loop-w
invariant-loop-w g l = (does : Meaning → Run → Meaning) → Steps (goal.F-post g l.step) g.P.Plant.meaning does → g.P.Plant.meaning l.plant ≡ on_link does (g.P.Plant.meaning l.initial.plant) (stood l.row) l.i l.w
