use Rattle.std.proofs.Common.{◌≡◌, ℕ, Option, cond, Some, None, rules}
use Rattle.calendar.specs.Layers.{card, named}
use Rattle.calendar.proofs.Carded.{order_of}
use Rattle.layers.proofs.StandingCarded.{channel_stands}
use Rattle.layers.proofs.card_order.CardOrder.channel_below.Goals as goal

pub returns : goal.returns
unfolding card
returns g c =
    let s = c.args.self.now in
    let e = s.table.entries in
    let t : ◌≡◌ {A = Option ℕ} c.then.result (cond (named c.args.channel) (Some (card e c.args.channel)) None) = search rules in
    rw t (channel_stands e (order_of e s.table.ordered) (g.P.Plant.meaning s.below) c.args.channel)
