use Rattle.std.proofs.Common.{◌≡◌, ℕ, ◌<◌, ◌≤◌, ◌&&◌}
use Rattle.network.specs.Flags.{may_use}
use Rattle.ways.specs.Hours.{block_free, cell_at}
use Rattle.ways.proofs.search.Search.open_links.Given as goal

abbrev pub invariant-loop-link : goal.invariant-loop-link
invariant-loop-link l =
    (i : ℕ) → 1 ≤ i → i < l.link → may_use l.open i ≡ (may_use l.self.usable.now i && block_free (cell_at l.self.free.now.cells.items) l.self.order l.a i)
