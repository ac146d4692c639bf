use Rattle.std.proofs.Common.{ap, ◌∙◌, rules}
use Rattle.calendar.specs.Meaning.{hour_at}
use Rattle.calendar.proofs.Takens.{taken_out, taken_in}
use Rattle.plant.specs.Means.{table_means}
use Rattle.plant.proofs.timetable.calls.TimetablePlant.first_taken.Goals as goal

pub returns-then-not-fits : goal.returns-then-not-fits
returns-then-not-fits c = taken_out (table_means c.args.self.now) c.args.run (search rules)

pub returns : goal.returns
returns c = c.hour_at.ensures ∙ ap (hour_at c.args.run) c.free_hours.ensures ∙ taken_in (table_means c.args.self.now) c.args.run (search rules)
