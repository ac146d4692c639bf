use Rattle.std.proofs.Common.{drop, sym, ap, ◌∙◌}
use Rattle.network.specs.Paths.{crossing, touched, has}
use Rattle.ways.specs.Ways.{every_link}
use Rattle.ways.proofs.Routes.{start_touched}
use Rattle.ways.proofs.follow.touches.Goals as goal

pub returns-then-v-place : goal.returns-then-v-place
returns-then-v-place c =
    let l = c.loop-number in
    let hop = crossing c.args.net.now every_link in
    let rest = drop l.number-index c.args.links.now in
    sym (start_touched hop rest l.v) ∙ ap (λ x. has x (touched hop l.v rest)) c.if-v-place.true ∙ l.invariant
