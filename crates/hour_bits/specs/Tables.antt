-- The bits of a whole plant as two tables, what they mean, and where they stand among the words.
--
--   Table                   a bit for each link, channel and hour
--   mapped L C held start   what the tables of held hours and of starts mean, with L links and C channels
--   base_of C l c           where the six words of link l and channel c begin
--   held_in ws C            the table of held hours that the words show: the first three of each six
--   start_in ws C           the table of starts that the words show: the last three of each six
--   words_mean ws L C       what the words mean
--   Kept ws L C             what the words of a map keep
--   Placed ws L C r b       a plant of that size can have the run r, and its six words begin at b
--   FreeAt ws L C r b       the run can be held there: no hour of it has its held bit set
--   LiveAt ws L C r b       the run is live there: the bits show it from its first hour on
--   Spare ws ws' n          the words from n on, and their number, are as they were
use Rattle.std.specs.Prelude.{◌≡◌, ℕ, ◌+◌, ◌-◌, ◌*◌, ◌<◌, ◌≤◌, Bool, true, false, cond, not, List, length, slice_index}
use Rattle.calendar.specs.Week.{any, later}
use Rattle.calendar.specs.Meaning.{Meaning, within, fits}
use Rattle.calendar.specs.declared.run.Run.{Run}
use Rattle.hour_bits.specs.Bits.{row, hours_of, SoundRow}

abbrev pub Table : Type 0
Table = ℕ → ℕ → ℕ → Bool

-- a run may start at every cell, so the limit is the number of cells; every cell within the sizes is open
unfoldable pub mapped : ℕ → ℕ → Table → Table → Meaning
mapped L C held start = record {
  links = L;
  channels = C;
  limit = L * C * 168;
  closed = λ l c h. not (within L C l c h);
  live = λ l c f. cond (within L C l c f) (hours_of (held l c) (start l c) f) 0;
}

abbrev pub base_of : ℕ → ℕ → ℕ → ℕ
base_of C l c = ((l - 1) * C + (c - 1)) * 6

abbrev pub held_in : List ℕ → ℕ → Table
held_in ws C l c = row ws (base_of C l c)

abbrev pub start_in : List ℕ → ℕ → Table
start_in ws C l c = row ws (base_of C l c + 3)

abbrev pub words_mean : List ℕ → ℕ → ℕ → Meaning
words_mean ws L C = mapped L C (held_in ws C) (start_in ws C)

pub record Kept (ws : List ℕ) (L C : ℕ) : Type 0 where
  pub some_links : 1 ≤ L
  pub few_links : L ≤ 40
  pub some_channels : 1 ≤ C
  pub few_channels : C ≤ 16
  pub enough : L * C * 6 ≤ length ws
  pub rows : (l c : ℕ) → within L C l c 0 ≡ true → SoundRow (held_in ws C l c) (start_in ws C l c)

pub record Placed (ws : List ℕ) (L C : ℕ) (r : Run) (b : ℕ) : Type 0 where
  pub fit : fits L C r ≡ true
  pub base : b ≡ base_of C r.link r.channel
  pub room : b + 6 ≤ length ws
  pub first : r.first < 168
  pub some : 1 ≤ r.hours
  pub most : r.hours ≤ 168

pub record FreeAt (ws : List ℕ) (L C : ℕ) (r : Run) (b : ℕ) : Type 0 where
  pub place : Placed ws L C r b
  pub free : any r.hours (λ j. row ws b (later r.first j)) ≡ false

pub record LiveAt (ws : List ℕ) (L C : ℕ) (r : Run) (b : ℕ) : Type 0 where
  pub place : Placed ws L C r b
  pub live : hours_of (row ws b) (row ws (b + 3)) r.first ≡ r.hours

pub record Spare (ws ws' : List ℕ) (n : ℕ) : Type 0 where
  pub many : length ws' ≡ length ws
  pub same : (i : ℕ) → n ≤ i → slice_index ws' i ≡ slice_index ws i
