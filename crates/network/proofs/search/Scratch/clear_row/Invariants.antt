use Rattle.std.proofs.Common.{◌≡◌, ℕ, ◌<◌, None}
use Rattle.network.specs.Method.{cell_at}
use Rattle.network.proofs.search.Scratch.clear_row.Given as goal

abbrev pub invariant-loop-v : goal.invariant-loop-v
invariant-loop-v g l =
    ((v : ℕ) → v < l.v → cell_at l.self.cells.items l.j v ≡ None)
    × ((k v : ℕ) → k < l.j → v < 33 → cell_at l.self.cells.items k v ≡ cell_at l.initial.self.cells.items k v)
