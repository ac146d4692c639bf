-- How a layer answers a call by one of the plant below. L is what the layer makes of a plant, and m is what the
-- plant below means, so that L m is what the layer means.
--
--   Passed L m                the layer has as much room as the plant below, and as many held cells of each link
--   HourStands L m h k        hour k of the plant below stands for hour h
--   ChannelStands L m w c     channel c of the plant below stands for channel w
--   RunStands L m r s         the run s of the plant below stands for the run r
--   NoHour m h                h is no hour of the week: every cell is closed in it, and none is held
--   NoChannel m w             every cell of channel w is closed, and none is held
--   OutOfRange m r            the plant cannot have the run r
--   AllClosed m r             the plant could have the run r, but its cells are closed
--   unmoved o found           the hour found by a plant that is o hours ahead, as a clock over it names it
--   before_window r k found   the hour found in the first k hours of r; else the hour after them, if r goes on
use Rattle.std.specs.Prelude.{◌≡◌, ℕ, ◌-◌, true, false, Some, None, Option}
use Rattle.calendar.specs.Week.{later}
use Rattle.calendar.specs.Meaning.{Meaning, is_held, room_of, held_count, hold_number, after_hold, release_number, after_release, hour_at, first_taken}
use Rattle.calendar.specs.declared.run.Run.{Run}

pub record Passed (L : Meaning → Meaning) (m : Meaning) : Type 0 where
  pub room : room_of (L m) ≡ room_of m
  pub count : (l : ℕ) → held_count (L m) l ≡ held_count m l

pub record HourStands (L : Meaning → Meaning) (m : Meaning) (h k : ℕ) : Type 0 where
  pub closed : (l c : ℕ) → (L m).closed l c h ≡ m.closed l c k
  pub held : (l c : ℕ) → is_held (L m) l c h ≡ is_held m l c k

pub record NoHour (m : Meaning) (h : ℕ) : Type 0 where
  pub closed : (l c : ℕ) → m.closed l c h ≡ true
  pub held : (l c : ℕ) → is_held m l c h ≡ false

pub record ChannelStands (L : Meaning → Meaning) (m : Meaning) (w c : ℕ) : Type 0 where
  pub closed : (l h : ℕ) → (L m).closed l w h ≡ m.closed l c h
  pub held : (l h : ℕ) → is_held (L m) l w h ≡ is_held m l c h

pub record NoChannel (m : Meaning) (w : ℕ) : Type 0 where
  pub closed : (l h : ℕ) → m.closed l w h ≡ true
  pub held : (l h : ℕ) → is_held m l w h ≡ false

-- a call with r is answered, and leaves the layer, as the call with s does the plant below
pub record RunStands (L : Meaning → Meaning) (m : Meaning) (r s : Run) : Type 0 where
  pub held : hold_number (L m) r ≡ hold_number m s
  pub after_held : after_hold (L m) r ≡ L (after_hold m s)
  pub released : release_number (L m) r ≡ release_number m s
  pub after_released : after_release (L m) r ≡ L (after_release m s)

-- the refusal is out of range, and leaves all as it was; the first hour is told as taken
pub record OutOfRange (m : Meaning) (r : Run) : Type 0 where
  pub held : hold_number m r ≡ 21
  pub after_held : after_hold m r ≡ m
  pub released : release_number m r ≡ 21
  pub after_released : after_release m r ≡ m
  pub taken : first_taken m r ≡ Some r.first

-- the refusals are a closed cell and no such run, and leave all as it was; the run is not free from the start
pub record AllClosed (m : Meaning) (r : Run) : Type 0 where
  pub held : hold_number m r ≡ 22
  pub after_held : after_hold m r ≡ m
  pub released : release_number m r ≡ 25
  pub after_released : after_release m r ≡ m
  pub taken : first_taken m r ≡ Some r.first

abbrev pub unmoved : ℕ → Option ℕ → Option ℕ
unmoved o (Some h) = Some (later h (168 - o))
unmoved o None = None

abbrev pub before_window : Run → ℕ → Option ℕ → Option ℕ
before_window r k (Some h) = Some h
before_window r k None = hour_at r k
