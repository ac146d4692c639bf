-- The channels that the rows of a book hold, one row after the other.
use Rattle.std.proofs.Common.{◌≡◌, ℕ, ◌≤◌, Bool, ◌||◌, List, [], ◌∷◌, sym, refl, ap, ◌∙◌}
use Rattle.std.specs.List.{AllByRecursion, list_any}
use Rattle.std.proofs.ByRecursion.{All-append}
use Rattle.calendar.specs.Week.{total}
use Rattle.network.specs.Paths.{has}
use Rattle.orders.specs.Standing.{block_has, stood, all_stood}
use Rattle.orders.specs.declared.row.Row.{Row}
use Rattle.floor.specs.Plans.{own, own_plan, channels_in, used}
use Rattle.floor.proofs.Numbers.{has_append, has_counting, counting_within, tested, different_tested}

-- the channels of the rows
abbrev pub held : List Row → List ℕ
held rows = channels_in (own_plan (all_stood rows))

-- channel c is in the row's block
abbrev pub row_has : ℕ → Row → Bool
row_has c r = block_has r.way.channel r.order.width c

held_cons : (c : ℕ) (r : Row) (rows : List Row) → has c (held (r ∷ rows)) ≡ (row_has c r || has c (held rows))
held_cons c r rows =
    has_append c (own (stood r)).channels (held rows) ∙ ap (λ b. b || has c (held rows)) (has_counting c r.way.channel r.order.width)

pub held_any : (c : ℕ) (rows : List Row) → list_any (row_has c) rows ≡ has c (held rows)
held_any c [] = refl
held_any c (r ∷ rows) = ap (λ b. row_has c r || b) (held_any c rows) ∙ sym (held_cons c r rows)

-- every block lies within channels 1 to 16
held_within : (rows : List Row) → AllByRecursion (λ x. (1 ≤ x) × (x ≤ 16)) (held rows)
held_within [] = tt
held_within (r ∷ rows) =
    All-append (λ x. (1 ≤ x) × (x ≤ 16)) (own (stood r)).channels (held rows) (counting_within r.way.channel r.order.width 16 r.block.0 r.block.1) (held_within rows)

pub used_tested : (rows : List Row) → used (all_stood rows) ≡ total 16 (tested (held rows))
used_tested rows = different_tested 16 (held rows) (held_within rows)
