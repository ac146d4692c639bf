use Rattle.std.proofs.Common.{not, is_some, ap, ◌∙◌}
use Rattle.ways.proofs.Asked.{asked, turned}
use Rattle.ways.proofs.free_channels.is_free.Goals as goal

pub returns : goal.returns
returns g c =
    let p = c.args.plant.now in
    turned (is_some c.first_taken.result) c.is_none.result c.is_none.ensures ∙ ap (λ x. not (is_some x)) c.first_taken.ensures ∙ asked (g.P.Plant.meaning p) (g.P.Plant.sound p) c.args.order c.args.link c.args.channel c.requires
