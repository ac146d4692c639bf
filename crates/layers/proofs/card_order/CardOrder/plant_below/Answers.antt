use Rattle.std.proofs.Common.{refl}
use Rattle.calendar.specs.Layers.{carded}
use Rattle.calendar.proofs.Carded.{order_of, room_carded}
use Rattle.layers.proofs.HeldCounts.{count_carded}
use Rattle.layers.proofs.card_order.CardOrder.plant_below.Goals as goal

pub returns : goal.returns
unfolding carded
returns g c =
    let s = c.args.self.now in
    let e = s.table.entries in
    let ok = order_of e s.table.ordered in
    let m = g.P.Plant.meaning s.below in
    let sound = g.P.Plant.sound s.below in
    record { plant = refl; size = refl; passed = record { room = room_carded e ok m sound; count = count_carded e ok m sound } }
