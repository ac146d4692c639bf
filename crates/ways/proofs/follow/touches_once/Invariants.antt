use Rattle.std.proofs.Common.{◌≡◌, length}
use Rattle.network.specs.Paths.{crossing, touched, no_twice}
use Rattle.ways.specs.Ways.{every_link}
use Rattle.ways.proofs.follow.touches_once.Given as goal

abbrev pub invariant-loop-number : goal.invariant-loop-number
invariant-loop-number l = no_twice (touched (crossing l.net every_link) l.v l.rest) ≡ no_twice (touched (crossing l.net every_link) l.fn.from l.fn.links)

abbrev pub decreases-loop-number : goal.decreases-loop-number
decreases-loop-number l = length l.rest
