-- What is made, and when the making is refused.
--
--   open_plant l c n       a plant of l links and c channels, every cell of it open, with no live run and the limit n
--   table_number l c n     the answer to making a timetable of n rows: 0 where it is made
--   map_number l c n       the answer to making a map over n words: 0 where it is made
--   window_number n w      the answer to adding the window w to n others: 0 where it is added
--   offset_number o        the answer to making a clock's offset: 0 where it is made
use Rattle.std.specs.Prelude.{ℕ, ◌*◌, Bool, cond, not, ◌&&◌, nat_le, nat_lt}
use Rattle.calendar.specs.Meaning.{Meaning, within}
use Rattle.calendar.specs.declared.run.Window.{Window}

unfoldable pub open_plant : ℕ → ℕ → ℕ → Meaning
open_plant l c n = record { links = l; channels = c; limit = n; closed = λ x y h. not (within l c x y h); live = λ _ _ _. 0 }

-- 1 to 40 links and 1 to 16 channels
abbrev pub sizes_fit : ℕ → ℕ → Bool
sizes_fit l c = (nat_le 1 l && nat_le l 40) && (nat_le 1 c && nat_le c 16)

-- at most 4,096 rows
unfoldable pub table_number : ℕ → ℕ → ℕ → ℕ
table_number l c n = cond (sizes_fit l c) (cond (nat_le n 4096) 0 12) 11

-- six words for each link and channel
unfoldable pub map_number : ℕ → ℕ → ℕ → ℕ
map_number l c n = cond (sizes_fit l c) (cond (nat_le (l * c * 6) n) 0 12) 11

-- a link from 1 to 40, a first hour of the week, 1 to 168 hours
unfoldable pub formed : Window → Bool
formed w = (nat_le 1 w.link && nat_le w.link 40) && (nat_lt w.first 168 && (nat_le 1 w.hours && nat_le w.hours 168))

-- at most eight windows
unfoldable pub window_number : ℕ → Window → ℕ
window_number n w = cond (nat_lt n 8 && formed w) 0 13

unfoldable pub offset_number : ℕ → ℕ
offset_number o = cond (nat_lt o 168) 0 13
