use Rattle.std.proofs.Common.{ℕ, Bool, not, ◌||◌, eqb, List, get_or, sym, ap, ◌∙◌, arith}
use Rattle.calendar.specs.Week.{any}
use Rattle.calendar.specs.Layers.{named, disordered}
use Rattle.calendar.proofs.Sums.{any_empty, any_next, any_found, any_done}
use Rattle.layers.proofs.Fronts.{any_front}
use Rattle.layers.proofs.card_table.is_disordered.Goals as goal

-- entry i is faulty
abbrev faulty : List ℕ → ℕ → Bool
faulty e i = not (named (get_or e i 0)) || any i (λ j. eqb (get_or e j 0) (get_or e i 0))

pub loop-i-init : goal.loop-i-init
loop-i-init c = any_empty _

pub loop-i-preserved : goal.loop-i-preserved
loop-i-preserved c =
    let e = c.args.order.now in
    let i = c.loop-i.i in
    any_next i (faulty e) c.loop-i.invariant (sym c.if-is_faulty.false ∙ c.is_faulty.ensures ∙ ap (λ t. not (named (get_or e i 0)) || t) (any_front e i 0 (omega arith) (λ y. eqb y (get_or e i 0))))

pub returns-then-is_faulty : goal.returns-then-is_faulty
unfolding disordered
returns-then-is_faulty c =
    let e = c.args.order.now in
    let i = c.loop-i.i in
    any_found 16 (faulty e) i (omega arith) (sym c.if-is_faulty.true ∙ c.is_faulty.ensures ∙ ap (λ t. not (named (get_or e i 0)) || t) (any_front e i 0 (omega arith) (λ y. eqb y (get_or e i 0))))

pub returns : goal.returns
unfolding disordered
returns c = any_done 16 (faulty c.args.order.now) c.loop-i.i c.loop-i.invariant (omega arith) (omega arith)
