use Rattle.std.proofs.Common.{◌∙◌}
use Rattle.calendar.proofs.Plants.{proper_size}
use Rattle.plant.specs.Means.{table_means}
use Rattle.plant.proofs.timetable.Timetable.fits.Goals as goal

pub returns : goal.returns
returns c = c.fits.ensures ∙ proper_size (table_means c.args.self.now) c.args.run c.size.result c.size.ensures
