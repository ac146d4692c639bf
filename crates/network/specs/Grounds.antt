-- What a search goes over, of the network and the flags that the code hands on together.
--
--   ground_of k over    the ground of the network on which the links that are usable may be used
use Rattle.network.specs.Costs.{Kind}
use Rattle.network.specs.Flags.{may_use}
use Rattle.network.specs.Paths as paths
use Rattle.network.specs.declared.search.ground.Ground.{Ground}

abbrev pub ground_of : {C : Type 0} → Kind C → Ground → paths.Ground C
ground_of k over = paths.ground k over.net.now (may_use over.usable.now)
