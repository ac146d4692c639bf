-- Words, rows of three words with a bit for each hour of the week, and the runs that the bits of a row show.
--
--   bit w k                  bit k of the word w
--   row ws base h            the bit of hour h in the row of three words from base on
--   more_hours p f n h       the bit of hour h after the n hours from f on are set
--   fewer_hours p f n h      the bit of hour h after the n hours from f on are cleared
--   bits s h                 the hour h is in the set s
--   Shown ws base r          the six words at base have the bits of the live runs r
--   Stored ws ws' base p q   the six words at base are written, with the bits of p and then of q, and no other
--   Marked r r' f n          the run of n hours from f on is put into the live runs r
--   Unmarked r r' f n        the run is taken out of them
--   bit_count p              how many hours of the week have their bit set
--   first_set p f n          the first of the n hours from f on with its bit set, if any
--   goes_on held start h     a run that started at an earlier hour covers hour h
--   lasts held start f       how many hours a run that starts at hour f has
--   hours_of held start f    the hours of the run that starts at hour f; 0 where none does
--   has_run held start f n   a run of n hours starts at hour f
--   SoundRow held start      the bits stand for runs
use Rattle.std.specs.Prelude.{◌≡◌, ℕ, suc, ◌+◌, ◌/◌, ◌%◌, ◌^◌, ◌<◌, ◌≤◌, Bool, true, false, cond, not, ◌&&◌, ◌||◌, ◌⊎◌, List, Some, None, Option, ◌==◌, nat_le, nat_lt, slice_index}
use Rattle.calendar.specs.Week.{any, total, least, later, covers}
use Rattle.hour_bits.specs.declared.row.LiveRuns.{LiveRuns}
use Rattle.hour_bits.specs.declared.set.HourSet.{HourSet}

abbrev pub bit : ℕ → ℕ → Bool
bit w k = w / 2 ^ k % 2 == 1

abbrev pub row : List ℕ → ℕ → ℕ → Bool
row ws base h = bit (slice_index ws (base + h / 64)) (h % 64)

abbrev pub more_hours : (ℕ → Bool) → ℕ → ℕ → ℕ → Bool
more_hours p f n h = p h || covers f n h

abbrev pub fewer_hours : (ℕ → Bool) → ℕ → ℕ → ℕ → Bool
fewer_hours p f n h = p h && not (covers f n h)

abbrev pub bits : HourSet → ℕ → Bool
bits s = row s.words 0

-- the held hours stand before the starts
pub record Shown (ws : List ℕ) (base : ℕ) (r : LiveRuns) : Type 0 where
  pub held : (h : ℕ) → h < 168 → bits r.held h ≡ row ws base h
  pub start : (h : ℕ) → h < 168 → bits r.starts h ≡ row ws (base + 3) h

-- no word but the six has changed
pub record Stored (ws ws' : List ℕ) (base : ℕ) (held start : ℕ → Bool) : Type 0 where
  pub held_bits : (h : ℕ) → h < 168 → row ws' base h ≡ held h
  pub start_bits : (h : ℕ) → h < 168 → row ws' (base + 3) h ≡ start h
  pub rest : (i : ℕ) → (i < base) ⊎ (base + 6 ≤ i) → slice_index ws' i ≡ slice_index ws i

unfoldable pub bit_count : (ℕ → Bool) → ℕ
bit_count p = total 168 (λ h. cond (p h) 1 0)

abbrev pub first_set : (ℕ → Bool) → ℕ → ℕ → Option ℕ
first_set p f n = cond (nat_lt (least n (λ j. p (later f j))) n) (Some (later f (least n (λ j. p (later f j))))) None

-- the hour is held and no run starts in it
abbrev pub goes_on : (ℕ → Bool) → (ℕ → Bool) → ℕ → Bool
goes_on held start h = held h && not (start h)

-- A run has its first hour and every hour after it up to the first in which it does not go on, at most 168. So a
-- run that ends where the next begins, one across Sunday night and one of the whole week are all told apart.
unfoldable pub lasts : (ℕ → Bool) → (ℕ → Bool) → ℕ → ℕ
lasts held start f = suc (least 167 (λ j. not (goes_on held start (later f (suc j)))))

abbrev pub hours_of : (ℕ → Bool) → (ℕ → Bool) → ℕ → ℕ
hours_of held start f = cond (start f) (lasts held start f) 0

-- A run is put in: its hours are held now, and it starts in its first.
pub record Marked (r r' : LiveRuns) (f n : ℕ) : Type 0 where
  pub held : (h : ℕ) → h < 168 → bits r'.held h ≡ more_hours (bits r.held) f n h
  pub start : (h : ℕ) → h < 168 → bits r'.starts h ≡ more_hours (bits r.starts) f 1 h

-- A run is taken out: none of its hours is held now, and none starts in its first.
pub record Unmarked (r r' : LiveRuns) (f n : ℕ) : Type 0 where
  pub held : (h : ℕ) → h < 168 → bits r'.held h ≡ fewer_hours (bits r.held) f n h
  pub start : (h : ℕ) → h < 168 → bits r'.starts h ≡ fewer_hours (bits r.starts) f 1 h

-- exactly the run of n hours from f on is live
abbrev pub has_run : (ℕ → Bool) → (ℕ → Bool) → ℕ → ℕ → Bool
has_run held start f n = (nat_le 1 n && nat_le n 168) && hours_of held start f == n

-- A start is held, an hour in which a run goes on has a held hour before it, and not every hour is one in which a
-- run goes on: so each held hour belongs to a run with a start.
pub record SoundRow (held start : ℕ → Bool) : Type 0 where
  pub starts : (h : ℕ) → h < 168 → start h ≡ true → held h ≡ true
  pub joined : (h : ℕ) → h < 168 → held h ≡ true → start h ≡ false → held (later h 167) ≡ true
  pub begun : any 168 (λ h. not (goes_on held start h)) ≡ true
