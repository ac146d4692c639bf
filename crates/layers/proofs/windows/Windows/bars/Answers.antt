use Rattle.std.proofs.Common.{ltb, sym, ◌∙◌}
use Rattle.calendar.proofs.Plants.{proper_size}
use Rattle.layers.proofs.TakenWindowed.{bars_fit, bars_unfit, bars_held}
use Rattle.layers.proofs.windows.Windows.bars.Goals as goal

pub returns-then-fits : goal.returns-then-fits
returns-then-fits g c =
    let s = c.args.self.now in
    let ws = s.table.windows in
    let n = s.table.count in
    let m = g.P.Plant.meaning s.below in
    let r = c.args.run in
    let fit = sym (c.fits.ensures ∙ proper_size m r c.size.result c.size.ensures) ∙ c.if-fits.true in
    bars_held ws n m r (ltb c.open_hours.result r.hours) (bars_fit ws n m r c.open_hours.result fit c.open_hours.ensures)

pub returns-else-fits : goal.returns-else-fits
returns-else-fits g c =
    let s = c.args.self.now in
    let m = g.P.Plant.meaning s.below in
    let r = c.args.run in
    let fit = sym (c.fits.ensures ∙ proper_size m r c.size.result c.size.ensures) ∙ c.if-fits.false in
    bars_held s.table.windows s.table.count m r c.fits.result (c.if-fits.false ∙ bars_unfit s.table.windows s.table.count m r fit)
