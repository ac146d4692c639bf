use Rattle.std.proofs.Common.{◌≡◌, Option, cond, ltb, Some, None, sym, ◌∙◌, rules}
use Rattle.calendar.specs.declared.run.Run.{Run}
use Rattle.calendar.proofs.Plants.{proper_size}
use Rattle.layers.proofs.TakenWindowed.{cut, taken_unfit, part_stands}
use Rattle.layers.proofs.windows.Windows.open_part.Goals as goal

pub returns-then-not-fits : goal.returns-then-not-fits
returns-then-not-fits g c =
    let s = c.args.self.now in
    let m = g.P.Plant.meaning s.below in
    let r = c.args.run in
    let fit = sym (c.fits.ensures ∙ proper_size m r c.size.result c.size.ensures) ∙ c.if-not-fits.true in
    sym (taken_unfit s.table.windows s.table.count m r fit)

pub returns : goal.returns
returns g c =
    let s = c.args.self.now in
    let m = g.P.Plant.meaning s.below in
    let r = c.args.run in
    let fit = sym (c.fits.ensures ∙ proper_size m r c.size.result c.size.ensures) ∙ c.if-not-fits.false in
    let k = c.open_hours-open.result in
    let e : ◌≡◌ {A = Option Run} c.then_some.result (cond (ltb 0 k) (Some (cut r k)) None) = search rules in
    rw e (part_stands s.table.windows s.table.count m r k fit c.open_hours-open.ensures)
