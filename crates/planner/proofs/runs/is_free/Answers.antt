use Rattle.std.proofs.Common.{is_some, not, sym, ap, ◌∙◌}
use Rattle.calendar.specs.Meaning.{first_taken}
use Rattle.orders.specs.Standing.{stood}
use Rattle.planner.proofs.Skips.{free_run}
use Rattle.planner.proofs.runs.is_free.Goals as goal

pub returns : goal.returns
returns g c e own =
    let m = g.P.Plant.meaning c.args.plant.now in
    free_run m own (stood c.args.row.now) c.args.link c.args.channel
    (ap (λ r. is_some (first_taken m r)) (sym c.run_on.ensures) ∙ ap is_some (sym c.first_taken.ensures) ∙ c.is_none.ensures ∙ ap not e)
