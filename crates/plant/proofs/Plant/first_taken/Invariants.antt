use Rattle.std.proofs.Common.{◌≡◌, false}
use Rattle.calendar.specs.Week.{any}
use Rattle.calendar.proofs.Takens.{taken_at}
use Rattle.plant.proofs.Plant.first_taken.Given as goal

abbrev pub invariant-loop-j : goal.invariant-loop-j
invariant-loop-j g l = any l.j (taken_at (g.Self.Plant.meaning l.self) l.run) ≡ false
