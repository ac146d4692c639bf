use Rattle.std.proofs.Common.{◌≡◌, ℕ, ◌+◌, ◌<◌, ◌≤◌}
use Rattle.network.specs.Grounds.{ground_of}
use Rattle.network.specs.Method.{cell_at, least_below, offer}
use Rattle.network.proofs.search.Scratch.next_row.Given as goal

abbrev pub invariant-loop-number : goal.invariant-loop-number
invariant-loop-number g l =
    let k = g.C.Cost.kind in
    let cells = l.self.cells.items in
    let old = l.initial.self.cells.items in
    ((v : ℕ) → v < 33 → cell_at cells (l.j + 1) v ≡ least_below k.at_most (offer (ground_of k l.over) (cell_at old l.j) v) l.number)
    × ((i v : ℕ) → i ≤ l.j → v < 33 → cell_at cells i v ≡ cell_at old i v)
