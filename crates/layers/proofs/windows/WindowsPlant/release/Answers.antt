use Rattle.calendar.specs.Numbers.{answer_number}
use Rattle.calendar.proofs.Windowed.{release_through}
use Rattle.layers.proofs.windows.WindowsPlant.release.Goals as goal

pub returns : goal.returns
returns g c =
    let s = c.args.self.now in
    release_through s.table.windows s.table.count (g.P.Plant.meaning s.below) c.args.run (answer_number c.release.result) (g.P.Plant.meaning c.release.new.self) c.release.ensures.answer c.release.ensures.after
