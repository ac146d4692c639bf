use Rattle.std.proofs.Common.{◌≡◌, ◌*◌, ◌≤◌, take, vec_items, sum_by}
use Rattle.floor.specs.Floor.{share}
use Rattle.floor.proofs.floor.load.Given as goal

abbrev pub invariant-loop-row : goal.invariant-loop-row
invariant-loop-row l =
    (l.sum ≤ 16 * l.row-index) × (l.sum ≡ sum_by (λ r. share r.order l.v l.hour) (take l.row-index (vec_items l.book.rows)))
