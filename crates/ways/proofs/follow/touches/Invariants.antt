use Rattle.std.proofs.Common.{◌≡◌, drop}
use Rattle.network.specs.Paths.{crossing, touched, has}
use Rattle.ways.specs.Ways.{every_link}
use Rattle.ways.proofs.follow.touches.Given as goal

abbrev pub invariant-loop-number : goal.invariant-loop-number
invariant-loop-number l =
    has l.place (touched (crossing l.net every_link) l.v (drop l.number-index l.links)) ≡ has l.place (touched (crossing l.net every_link) l.fn.from l.links)
