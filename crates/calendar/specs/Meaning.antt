-- What a plant means, and what each of its calls answers and leaves.
--
--   Meaning             sizes, limit on live runs, closed cells, live runs
--   inside m l c h      the cell lies within the sizes and the week
--   is_held m l c h     a live run covers the cell
--   live_count m        the number of live runs
--   held_count m l      the number of held cells of link l
--   room_of m           how many more runs can be live
--   proper m r          the run names a link, a channel and hours that the plant has
--   hold_number m r     what hold answers, 0 where it is done; after_hold m r is what it leaves
--   release_number m r  what release answers, 0 where it is done; after_release m r is what it leaves
--   first_taken m r     the first hour of the run that is not free
--   Sound m             what every plant keeps
use Rattle.std.specs.Prelude.{◌≡◌, ℕ, suc, ◌-◌, ◌<◌, ◌≤◌, min, Bool, true, false, cond, ◌&&◌, ◌||◌, Some, None, Option, ◌==◌, nat_le, nat_lt}
use Rattle.calendar.specs.Week.{any, total, least, later, covers}
use Rattle.calendar.specs.declared.run.Run.{Run}
use Rattle.calendar.specs.declared.run.Size.{Size}

-- live l c f is the number of hours of the live run that starts at link l, channel c and hour f; 0 where none
-- does. No two live runs share a cell, so at most one starts at each: this function is the set of live runs.
pub record Meaning : Type 0 where
  pub links : ℕ
  pub channels : ℕ
  pub limit : ℕ
  pub closed : ℕ → ℕ → ℕ → Bool
  pub live : ℕ → ℕ → ℕ → ℕ

-- links and channels are numbered from 1, hours from 0
abbrev pub within : ℕ → ℕ → ℕ → ℕ → ℕ → Bool
within ls cs l c h = (nat_le 1 l && nat_le l ls) && ((nat_le 1 c && nat_le c cs) && nat_lt h 168)

-- the cell is within the sizes and the week
abbrev pub inside : Meaning → ℕ → ℕ → ℕ → Bool
inside m l c h = within m.links m.channels l c h

-- a live run covers the cell
unfoldable pub is_held : Meaning → ℕ → ℕ → ℕ → Bool
is_held m l c h = any 168 (λ f. covers f (m.live l c f) h)

-- the number of live runs
unfoldable pub live_count : Meaning → ℕ
live_count m = total m.links (λ l. total m.channels (λ c. total 168 (λ f. min 1 (m.live (suc l) (suc c) f))))

-- the number of held cells of link l
unfoldable pub held_count : Meaning → ℕ → ℕ
held_count m l = total m.channels (λ c. total 168 (λ h. cond (is_held m l (suc c) h) 1 0))

unfoldable pub room_of : Meaning → ℕ
room_of m = m.limit - live_count m

abbrev pub size_of : Meaning → Size
size_of m = record { links = m.links; channels = m.channels }

-- the run's link, channel, first hour and number of hours are those of a plant with ls links and cs channels
abbrev pub fits : ℕ → ℕ → Run → Bool
fits ls cs r = within ls cs r.link r.channel r.first && (nat_le 1 r.hours && nat_le r.hours 168)

unfoldable pub proper : Meaning → Run → Bool
proper m r = fits m.links m.channels r

-- some cell of the run passes the test p
unfoldable pub meets : (ℕ → ℕ → ℕ → Bool) → Run → Bool
meets p r = any r.hours (λ j. p r.link r.channel (later r.first j))

-- the live runs g, but for the run that starts at (l, c, f), which now has n hours
unfoldable pub put : (ℕ → ℕ → ℕ → ℕ) → ℕ → ℕ → ℕ → ℕ → ℕ → ℕ → ℕ → ℕ
put g l c f n x y z = cond (x == l && (y == c && z == f)) n (g x y z)

-- the plant with n hours for the run that starts where r does, and all else as it was
unfoldable pub with_run : Meaning → Run → ℕ → Meaning
with_run m r n = record { links = m.links; channels = m.channels; limit = m.limit; closed = m.closed; live = put m.live r.link r.channel r.first n }

-- 0 stands for an answer that is no refusal
abbrev pub accepted : ℕ → Bool
accepted n = n == 0

-- out of range, a cell closed, a cell held, no room; else the run is held
unfoldable pub hold_number : Meaning → Run → ℕ
hold_number m r =
    cond (proper m r)
    (cond (meets m.closed r) 22
    (cond (meets (is_held m) r) 23
    (cond (room_of m == 0) 24 0)))
    21

unfoldable pub after_hold : Meaning → Run → Meaning
after_hold m r = cond (accepted (hold_number m r)) (with_run m r r.hours) m

-- out of range, no such live run; else the run is released
unfoldable pub release_number : Meaning → Run → ℕ
release_number m r =
    cond (proper m r)
    (cond (m.live r.link r.channel r.first == r.hours) 0 25)
    21

unfoldable pub after_release : Meaning → Run → Meaning
after_release m r = cond (accepted (release_number m r)) (with_run m r 0) m

-- the cell is not free
abbrev pub taken : Meaning → ℕ → ℕ → ℕ → Bool
taken m l c h = m.closed l c h || is_held m l c h

-- how many hours of the run, from its first on, come before one that is not free
unfoldable pub free_hours : Meaning → Run → ℕ
free_hours m r = least r.hours (λ j. taken m r.link r.channel (later r.first j))

-- the hour of the run that comes j hours after its first, if it has so many
abbrev pub hour_at : Run → ℕ → Option ℕ
hour_at r j = cond (nat_lt j r.hours) (Some (later r.first j)) None

-- the first hour of the run that is not free, if any; a run that is out of range is not free from the start
unfoldable pub first_taken : Meaning → Run → Option ℕ
first_taken m r = cond (proper m r) (hour_at r (free_hours m r)) (Some r.first)

-- What every plant keeps: its sizes are within the limits, every cell outside them is closed, a live run lies
-- within them and has at most 168 hours, no two live runs share a cell, and they are no more than the limit.
pub record Sound (m : Meaning) : Type 0 where
  pub some_links : 1 ≤ m.links
  pub few_links : m.links ≤ 40
  pub some_channels : 1 ≤ m.channels
  pub few_channels : m.channels ≤ 16
  pub open_inside : (l c h : ℕ) → m.closed l c h ≡ false → inside m l c h ≡ true
  pub live_inside : (l c f : ℕ) → 0 < m.live l c f → inside m l c f ≡ true
  pub live_short : (l c f : ℕ) → m.live l c f ≤ 168
  pub apart : (l c f g i j : ℕ) → i < m.live l c f → j < m.live l c g → later f i ≡ later g j → f ≡ g
  pub few : live_count m ≤ m.limit
