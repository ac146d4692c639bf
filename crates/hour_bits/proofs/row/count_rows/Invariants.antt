use Rattle.std.proofs.Common.{◌≡◌, ℕ, ◌*◌, ◌≤◌, List, sum_by, take}
use Rattle.hour_bits.specs.Bits.{row, bit_count}
use Rattle.hour_bits.proofs.row.count_rows.Given as goal

abbrev pub invariant-loop-row : goal.invariant-loop-row
invariant-loop-row l = (l.count ≤ 168 * l.row-index) × (l.count ≡ sum_by (λ (r : List ℕ). bit_count (row r l.at)) (take l.row-index l.rows))
