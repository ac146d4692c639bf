use Rattle.std.proofs.Common.{◌&&◌, eqb, ap, ◌∙◌, arith}
use Rattle.std.specs.List.{list_any}
use Rattle.calendar.specs.Week.{covers}
use Rattle.calendar.specs.Layers.{shut, shuts, nowhere}
use Rattle.layers.proofs.Fronts.{any_front}
use Rattle.layers.proofs.window_table.WindowTable.shuts.Goals as goal

pub returns : goal.returns
unfolding shut shuts
returns c =
    let t = c.args.self.now in
    c.some_shuts.ensures
    ∙ ap (list_any (λ w. eqb w.link c.args.link && covers w.first w.hours c.args.hour)) c.in_use.ensures
    ∙ any_front t.windows t.count nowhere (omega arith) (λ w. eqb w.link c.args.link && covers w.first w.hours c.args.hour)
