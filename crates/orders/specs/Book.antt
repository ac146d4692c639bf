-- The list of standing orders, by their numbers.
--
--   stands n es      an order of number n stands
--   pick n es        the first order of that number
--   strike n es      the list without it
--   at_hour f e      the order with a new first hour, all else the same
--   moved n f es     the list with a new first hour for the first order of number n, in its position
--   numbers rows     the order numbers of the rows
--   pushed es e      the list with one order more at its end, where fewer than 64 stand and none has its number
--   Found n rows i   row i of the book has the first order of number n
use Rattle.std.specs.Prelude.{◌≡◌, ℕ, ◌<◌, Bool, true, false, if◌then◌else◌, ◌||◌, List, [], ◌∷◌, ◌++◌, map, length, ◌==◌, nat_le, slice_index_or, slice_set}
use Rattle.std.specs.List.{remove}
use Rattle.orders.specs.Standing.{Standing, stood, all_stood}
use Rattle.orders.specs.declared.row.Row.{Row}

-- stands where there is no order
abbrev pub nobody : Standing
nobody = record { order = record { number = 0; from = 0; to = 0; width = 0; first = 0; hours = 0 }; channel = 0; path = [] }

unfoldable pub stands : ℕ → List Standing → Bool
stands n [] = false
stands n (e ∷ es) = e.order.number == n || stands n es

unfoldable pub pick : ℕ → List Standing → Standing
pick n [] = nobody
pick n (e ∷ es) = if e.order.number == n then e else pick n es

unfoldable pub strike : ℕ → List Standing → List Standing
strike n [] = []
strike n (e ∷ es) = if e.order.number == n then es else e ∷ strike n es

abbrev pub at_hour : ℕ → Standing → Standing
at_hour f e = record {
  order = record { number = e.order.number; from = e.order.from; to = e.order.to; width = e.order.width; first = f; hours = e.order.hours };
  channel = e.channel;
  path = e.path;
}

unfoldable pub moved : ℕ → ℕ → List Standing → List Standing
moved n f [] = []
moved n f (e ∷ es) = if e.order.number == n then at_hour f e ∷ es else e ∷ moved n f es

abbrev pub numbers : List Row → List ℕ
numbers rows = map (λ r. r.order.number) rows

abbrev pub pushed : List Standing → Standing → List Standing
pushed es e = if nat_le 64 (length es) || stands e.order.number es then es else es ++ (e ∷ [])

pub record Found (n : ℕ) (rows : List Row) (i : ℕ) : Type 0 where
  pub there : i < length rows
  pub found : stands n (all_stood rows) ≡ true
  pub same : (pick n (all_stood rows)).order.number ≡ n
  pub row : (r : Row) → r ≡ slice_index_or rows i r → stood r ≡ pick n (all_stood rows)
  pub gone : remove (all_stood rows) i ≡ strike n (all_stood rows)
  pub hour : (f : ℕ) → slice_set (all_stood rows) i (at_hour f (pick n (all_stood rows))) ≡ moved n f (all_stood rows)
