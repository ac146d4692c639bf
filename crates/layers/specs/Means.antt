-- What each layer means: it is a plant again, made of its table and of the plant below.
--
--   clock_means m s     the clock s, over a plant that means m: hour h is hour (h + the table's hours) mod 168 below
--   windows_means m s   the windows s: the hours of a window are closed too, on all channels of its link
--   order_means m s     the card order s: channel w is the channel below that entry w of the table names
use Rattle.calendar.specs.Meaning.{Meaning}
use Rattle.calendar.specs.Layers.{clocked, windowed, carded}
use Rattle.layers.specs.declared.clock.Clock.{Clock}
use Rattle.layers.specs.declared.windows.Windows.{Windows}
use Rattle.layers.specs.declared.card_order.CardOrder.{CardOrder}

-- the week below begins so many hours later
abbrev pub clock_means : {P : Type 0} → (P → Meaning) → Clock P → Meaning
clock_means m s = clocked s.table.hours (m s.below)

-- of the eight places, as many count as windows were added
abbrev pub windows_means : {P : Type 0} → (P → Meaning) → Windows P → Meaning
windows_means m s = windowed s.table.windows s.table.count (m s.below)

-- sixteen channels, whatever number the plant below has
abbrev pub order_means : {P : Type 0} → (P → Meaning) → CardOrder P → Meaning
order_means m s = carded s.table.entries (m s.below)
