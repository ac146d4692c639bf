use Rattle.std.proofs.Common.{◌≡◌, min, cond, eqb, take, ◌∙◌, arith, rules}
use Rattle.std.specs.List.{fold}
use Rattle.calendar.specs.Week.{until}
use Rattle.layers.proofs.OpenHours.{open_front}
use Rattle.layers.proofs.window_table.WindowTable.open_hours.Goals as goal

pub returns : goal.returns
returns c =
    let t = c.args.self.now in
    let r = c.args.run in
    let e : c.fold.result ≡ fold (λ b w. min (cond (eqb w.link r.link) (min r.hours (until w.first w.hours r.first)) r.hours) b) r.hours (take t.count t.windows) = search rules in
    e ∙ open_front t.windows t.count r (omega arith) c.requires
