use Rattle.std.proofs.Common.{◌≡◌}
use Rattle.sample.proofs.sample_network.Given as goal

abbrev pub invariant-loop-one : goal.invariant-loop-one
invariant-loop-one l = (l.net.places ≡ 4) × (l.net.hops ≡ 3)
