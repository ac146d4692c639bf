use Rattle.std.proofs.Common.{Some, sym, ap, ◌∙◌}
use Rattle.calendar.specs.Meaning.{taken}
use Rattle.calendar.proofs.Sums.{any_empty, any_next}
use Rattle.calendar.proofs.Plants.{proper_size}
use Rattle.calendar.proofs.Takens.{taken_at, taken_out, taken_found, taken_missed}
use Rattle.plant.proofs.Plant.first_taken.Goals as goal

pub returns-then-not-fits : goal.returns-then-not-fits
returns-then-not-fits g c = let m = g.Self.Plant.meaning c.args.self.now in
    taken_out m c.args.run (sym (c.fits.ensures ∙ proper_size m c.args.run c.size.result c.size.ensures) ∙ c.if-not-fits.true)

pub loop-j-init : goal.loop-j-init
loop-j-init g c = any_empty (taken_at (g.Self.Plant.meaning c.args.self.now) c.args.run)

pub loop-j-preserved : goal.loop-j-preserved
loop-j-preserved g c = let m = g.Self.Plant.meaning c.args.self.now in let r = c.args.run in
    any_next c.loop-j.j (taken_at m r) c.loop-j.invariant (sym c.if-taken.false ∙ c.taken.ensures ∙ ap (taken m r.link r.channel) c.hour_after-hour.ensures)

pub returns-then-taken : goal.returns-then-taken
returns-then-taken g c = let m = g.Self.Plant.meaning c.args.self.now in let r = c.args.run in
    ap Some c.hour_after-hour.ensures
    ∙ taken_found m r c.loop-j.j (sym (c.fits.ensures ∙ proper_size m r c.size.result c.size.ensures) ∙ c.if-not-fits.false) c.loop-j-test.true c.loop-j.invariant
    (sym (c.taken.ensures ∙ ap (taken m r.link r.channel) c.hour_after-hour.ensures) ∙ c.if-taken.true)

pub returns : goal.returns
returns g c = let m = g.Self.Plant.meaning c.args.self.now in let r = c.args.run in
    taken_missed m r c.loop-j.j (sym (c.fits.ensures ∙ proper_size m r c.size.result c.size.ensures) ∙ c.if-not-fits.false) c.loop-j.invariant c.loop-j.auto.j-end c.loop-j-test.false
