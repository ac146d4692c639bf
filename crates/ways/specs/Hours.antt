-- When an order's hours are free.
--
--   hours_fit o             the order's hours are hours of the week
--   block_fits cs a w       the block of w channels from channel a up lies within cs channels
--   run_free taken o l c    channel c of link l is free in all hours of the order
--   block_free free o a l   every channel of the order's block from channel a up is free on link l
--   cell_at xs l c          what a table with 17 places for each link has for channel c of link l
use Rattle.std.specs.Prelude.{◌≡◌, ℕ, ◌+◌, ◌*◌, ◌<◌, ◌≤◌, Bool, false, not, ◌&&◌, List, ◌≢◌, nat_le, nat_lt, slice_index_or}
use Rattle.calendar.specs.Week.{any, later}
use Rattle.ways.specs.declared.order.Order.{Order}

abbrev pub hours_fit : Order → Bool
hours_fit o = nat_lt o.first 168 && (nat_le 1 o.hours && nat_le o.hours 168)

abbrev pub block_fits : ℕ → ℕ → ℕ → Bool
block_fits cs a w = nat_le 1 a && nat_le (a + w) (cs + 1)

unfoldable pub run_free : (ℕ → ℕ → ℕ → Bool) → Order → ℕ → ℕ → Bool
run_free taken o l c = not (any o.hours (λ j. taken l c (later o.first j)))

unfoldable pub block_free : (ℕ → ℕ → Bool) → Order → ℕ → ℕ → Bool
block_free free o a l = not (any o.width (λ k. not (free l (a + k))))

abbrev pub cell_at : List Bool → ℕ → ℕ → Bool
cell_at xs l c = slice_index_or xs (l * 17 + c) false

-- the table has what was told of the channels 1 to n - 1 of link l, and for every other link what it had
pub record LinkTold (P : ℕ → ℕ → Bool → Type 0) (old new : List Bool) (l n : ℕ) : Type 0 where
  pub told : (c : ℕ) → 1 ≤ c → c < n → P l c (cell_at new l c)
  pub kept : (k c : ℕ) → (k ≢ l) → c < 17 → cell_at new k c ≡ cell_at old k c

-- the table has what was told of the channels 1 to n - 1 of the links 1 to k - 1
abbrev pub Told : (ℕ → ℕ → Bool → Type 0) → List Bool → ℕ → ℕ → Type 0
Told P xs k n = (l c : ℕ) → 1 ≤ l → l < k → 1 ≤ c → c < n → P l c (cell_at xs l c)
