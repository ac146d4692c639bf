use Rattle.std.proofs.Common.{◌≡◌, inl, inr, sym, refl, ap, ◌∙◌, arith}
use Rattle.calendar.specs.Layers.{carded, card}
use Rattle.calendar.proofs.Carded.{order_of, proper_named, named_parts}
use Rattle.layers.proofs.OutOfRange.{out_of_range}
use Rattle.layers.proofs.StandingCarded.{proper_sixteen, stands_at, all_closed}
use Rattle.layers.proofs.card_order.CardOrder.run_below.Goals as goal

pub returns-then-not-fits : goal.returns-then-not-fits
returns-then-not-fits g c =
    let s = c.args.self.now in
    let e = s.table.entries in
    let m = g.P.Plant.meaning s.below in
    let fit = proper_sixteen e (order_of e s.table.ordered) m (g.P.Plant.sound s.below) c.args.run c.size-size.result c.size-size.ensures ∙ sym c.fits.ensures in
    inl (refl, out_of_range (carded e m) c.args.run (fit ∙ c.if-not-fits.true))

pub entry-channel-requires : goal.entry-channel-requires
entry-channel-requires g c =
    let s = c.args.self.now in
    let e = s.table.entries in
    let ok = order_of e s.table.ordered in
    let m = g.P.Plant.meaning s.below in
    let fit = proper_sixteen e ok m (g.P.Plant.sound s.below) c.args.run c.size-size.result c.size-size.ensures ∙ sym c.fits.ensures in
    let p = named_parts c.args.run.channel (proper_named e ok m c.args.run (fit ∙ c.if-not-fits.false)) in
    record { low = p.0; high = p.1 }

pub returns-then-size-channel : goal.returns-then-size-channel
unfolding card
returns-then-size-channel g c =
    let s = c.args.self.now in
    let e = s.table.entries in
    let ok = order_of e s.table.ordered in
    let m = g.P.Plant.meaning s.below in
    let sound = g.P.Plant.sound s.below in
    let fit = proper_sixteen e ok m sound c.args.run c.size-size.result c.size-size.ensures ∙ sym c.fits.ensures in
    let channels : c.size-size.result.channels ≡ m.channels = ap (λ z. z.channels) c.size-size.ensures in
    inr (refl, all_closed e ok m sound c.args.run (fit ∙ c.if-not-fits.false) (omega (arith, channels, c.entry-channel.ensures, c.if-size-channel.true)))

pub returns : goal.returns
unfolding card
returns g c =
    let s = c.args.self.now in
    let e = s.table.entries in
    let ok = order_of e s.table.ordered in
    let m = g.P.Plant.meaning s.below in
    let sound = g.P.Plant.sound s.below in
    let fit = proper_sixteen e ok m sound c.args.run c.size-size.result c.size-size.ensures ∙ sym c.fits.ensures in
    let channels : c.size-size.result.channels ≡ m.channels = ap (λ z. z.channels) c.size-size.ensures in
    stands_at e ok m sound c.args.run (fit ∙ c.if-not-fits.false) c.entry-channel.result c.entry-channel.ensures (omega (arith, channels, c.if-size-channel.false))
