use Rattle.std.proofs.Common.{◌≡◌, drop}
use Rattle.network.specs.Paths.{crossing, leads}
use Rattle.ways.specs.Ways.{every_link}
use Rattle.ways.proofs.follow.arrival.Given as goal

abbrev pub invariant-loop-number : goal.invariant-loop-number
invariant-loop-number l = leads (crossing l.net every_link) l.v (drop l.number-index l.links) ≡ leads (crossing l.net every_link) l.fn.from l.links
