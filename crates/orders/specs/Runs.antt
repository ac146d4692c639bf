-- The runs of an order: holding and releasing them one after the other, and the first of their cells that is not free.
--
--   run_of e l c          the order's run on channel c of link l
--   hold_all m e          what is left once each run of the order is held: by link in path order, then by channel
--   release_all m e       what is left once each is released
--   first_fault m own e   the first cell of the order that is not free, by link in path order, then channel, then hour
--                         from the first; a held cell of which `own` holds counts as free
use Rattle.std.specs.Prelude.{ℕ, zero, suc, ◌+◌, Bool, false, if◌then◌else◌, not, ◌&&◌, length, Some, None, Option, slice_index}
use Rattle.calendar.specs.Week.{later}
use Rattle.calendar.specs.Meaning.{Meaning, is_held, after_hold, after_release}
use Rattle.calendar.specs.declared.run.Run.{Run}
use Rattle.network.specs.Paths.{when_there}
use Rattle.orders.specs.Standing.{Standing, in_cell}
use Rattle.orders.specs.declared.refusal.Refusal.{Refusal}
use Rattle.orders.specs.declared.refusal.Refusal.TheVariants.{CellClosed, CellHeld}

abbrev pub run_of : Standing → ℕ → ℕ → Run
run_of e l c = record { link = l; channel = c; first = e.order.first; hours = e.order.hours }

-- link i of the order's path, counted from 0
abbrev pub link_of : Standing → ℕ → ℕ
link_of e i = slice_index e.path i

-- f for the first w channels of the order's block, on link i of its path
unfoldable pub on_link : (Meaning → Run → Meaning) → Meaning → Standing → ℕ → ℕ → Meaning
on_link f m e i zero = m
on_link f m e i (suc w) = f (on_link f m e i w) (run_of e (link_of e i) (e.channel + w))

-- f for the whole block, on the first i links of its path
unfoldable pub on_links : (Meaning → Run → Meaning) → Meaning → Standing → ℕ → Meaning
on_links f m e zero = m
on_links f m e (suc i) = on_link f (on_links f m e i) e i e.order.width

abbrev pub each_run : (Meaning → Run → Meaning) → Meaning → Standing → Meaning
each_run f m e = on_links f m e (length e.path)

abbrev pub hold_all : Meaning → Standing → Meaning
hold_all m e = each_run after_hold m e

abbrev pub release_all : Meaning → Standing → Meaning
release_all m e = each_run after_release m e

-- the first that t gives, below n
unfoldable pub first_below : (ℕ → Option Refusal) → ℕ → Option Refusal
first_below t zero = None
first_below t (suc n) = when_there (first_below t n) (t n) (λ x. Some x)

-- why the cell is not free: it is closed, or held and not by the order itself
abbrev pub cell_fault : Meaning → (ℕ → ℕ → ℕ → Bool) → ℕ → ℕ → ℕ → Option Refusal
cell_fault m own l c h =
    if m.closed l c h then Some (CellClosed (record { link = l; channel = c; hour = h }))
    else if is_held m l c h && not (own l c h) then Some (CellHeld (record { link = l; channel = c; hour = h }))
    else None

-- the same for the first n hours of the order on channel c of link l
abbrev pub run_fault : Meaning → (ℕ → ℕ → ℕ → Bool) → Standing → ℕ → ℕ → ℕ → Option Refusal
run_fault m own e l c n = first_below (λ j. cell_fault m own l c (later e.order.first j)) n

-- and for the first w channels of its block on link i of its path
abbrev pub link_fault : Meaning → (ℕ → ℕ → ℕ → Bool) → Standing → ℕ → ℕ → Option Refusal
link_fault m own e i w = first_below (λ k. run_fault m own e (link_of e i) (e.channel + k) e.order.hours) w

abbrev pub first_fault : Meaning → (ℕ → ℕ → ℕ → Bool) → Standing → Option Refusal
first_fault m own e = first_below (λ i. link_fault m own e i e.order.width) (length e.path)

-- no cell; the cells of an order, if there is one
abbrev pub own_cells : Option Standing → ℕ → ℕ → ℕ → Bool
own_cells o l c h = when_there o false (λ e. in_cell e l c h)
