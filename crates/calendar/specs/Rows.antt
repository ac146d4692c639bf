-- What a timetable's rows mean. A row of no hours is empty.
use Rattle.std.specs.Prelude.{◌≡◌, ℕ, ◌<◌, min, Bool, true, cond, not, ◌&&◌, List, length, get_or, ◌==◌, slice_index_or}
use Rattle.calendar.specs.Week.{total, covers}
use Rattle.calendar.specs.Meaning.{Meaning, Sound, live_count, within}
use Rattle.calendar.specs.declared.run.Run.{Run}

abbrev pub no_run : Run
no_run = record { link = 0; channel = 0; first = 0; hours = 0 }

-- the run starts at that cell
unfoldable pub starts : Run → ℕ → ℕ → ℕ → Bool
starts r l c f = l == r.link && (c == r.channel && f == r.first)

unfoldable pub row_live : List Run → ℕ → ℕ → ℕ → ℕ
row_live rows l c f = total (length rows) (λ i. cond (starts (slice_index_or rows i no_run) l c f) (get_or rows i no_run).hours 0)

-- the number of rows in use
unfoldable pub used : List Run → ℕ
used rows = total (length rows) (λ i. min 1 (get_or rows i no_run).hours)

abbrev pub tabled : List Run → ℕ → ℕ → Meaning
tabled rows l c = record { links = l; channels = c; limit = length rows; closed = λ x y h. not (within l c x y h); live = row_live rows }

-- What the rows of a timetable keep.
pub record Kept (rows : List Run) (l c : ℕ) : Type 0 where
  pub sound : Sound (tabled rows l c)
  pub counted : live_count (tabled rows l c) ≡ used rows
  pub alone : (i j : ℕ) → i < length rows → j < length rows → 0 < (get_or rows i no_run).hours → 0 < (get_or rows j no_run).hours → starts (slice_index_or rows i no_run) (get_or rows j no_run).link (get_or rows j no_run).channel (get_or rows j no_run).first ≡ true → i ≡ j

-- the run covers the cell
abbrev pub on_cell : Run → ℕ → ℕ → ℕ → Bool
on_cell r l c h = (l == r.link && c == r.channel) && covers r.first r.hours h

-- the two are the same run
abbrev pub same_run : Run → Run → Bool
same_run a b = ((a.link == b.link && a.channel == b.channel) && a.first == b.first) && a.hours == b.hours
