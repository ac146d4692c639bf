-- What the code searches, as the rules speak of it.
--
--   sought k s    what is wanted of the search s, by the cost kind k
use Rattle.network.specs.Costs.{Kind}
use Rattle.network.specs.Flags.{may_use}
use Rattle.ways.specs.Ways.{Wanted, noted}
use Rattle.ways.specs.declared.search.Search.{Search}

abbrev pub sought : {C : Type 0} → Kind C → Search → Wanted C
sought k s = noted k s.net.now (may_use s.usable.now) s.free.now.cells.items s.free.now.channels s.order
