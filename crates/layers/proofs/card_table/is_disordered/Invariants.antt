use Rattle.std.proofs.Common.{◌≡◌, false, not, ◌||◌, eqb, get_or}
use Rattle.calendar.specs.Week.{any}
use Rattle.calendar.specs.Layers.{named}
use Rattle.layers.proofs.card_table.is_disordered.Given as goal

abbrev pub invariant-loop-i : goal.invariant-loop-i
invariant-loop-i l = any l.i (λ i. not (named (get_or l.order i 0)) || any i (λ j. eqb (get_or l.order j 0) (get_or l.order i 0))) ≡ false
