-- What the layers make of the plant below.
use Rattle.std.specs.Prelude.{◌≡◌, ℕ, ◌-◌, ◌<◌, ◌≤◌, Bool, true, cond, not, ◌&&◌, ◌||◌, List, ◌==◌, nat_eq, nat_le, nat_lt, slice_index, slice_index_or}
use Rattle.calendar.specs.Week.{any, later, covers}
use Rattle.calendar.specs.Meaning.{Meaning}
use Rattle.calendar.specs.declared.run.Run.{Run}
use Rattle.calendar.specs.declared.run.Window.{Window}

-- hour h is hour (h + o) mod 168 below
unfoldable pub clocked : ℕ → Meaning → Meaning
clocked o m = record {
  links = m.links;
  channels = m.channels;
  limit = m.limit;
  closed = λ l c h. cond (nat_lt h 168) (m.closed l c (later h o)) true;
  live = λ l c f. cond (nat_lt f 168) (m.live l c (later f o)) 0;
}

-- a run as the plant below a clock names it
abbrev pub moved : ℕ → Run → Run
moved o r = record { link = r.link; channel = r.channel; first = later r.first o; hours = r.hours }

abbrev pub nowhere : Window
nowhere = record { link = 0; first = 0; hours = 0 }

-- the window closes its link in hour h
unfoldable pub shuts : Window → ℕ → ℕ → Bool
shuts w l h = w.link == l && covers w.first w.hours h

-- one of the first n windows closes the link in hour h
unfoldable pub shut : List Window → ℕ → ℕ → ℕ → Bool
shut ws n l h = any n (λ i. shuts (slice_index_or ws i nowhere) l h)

unfoldable pub windowed : List Window → ℕ → Meaning → Meaning
windowed ws n m = record {
  links = m.links;
  channels = m.channels;
  limit = m.limit;
  closed = λ l c h. m.closed l c h || shut ws n l h;
  live = m.live;
}

-- the channel below that entry w of the card order names
unfoldable pub card : List ℕ → ℕ → ℕ
card e w = slice_index e (w - 1)

abbrev pub named : ℕ → Bool
named w = nat_le 1 w && nat_le w 16

-- sixteen different numbers from 1 to 16
pub record Order (e : List ℕ) : Type 0 where
  pub low : (k : ℕ) → k < 16 → 1 ≤ slice_index e k
  pub high : (k : ℕ) → k < 16 → slice_index e k ≤ 16
  pub apart : (j k : ℕ) → j < 16 → k < 16 → slice_index e j ≡ slice_index e k → j ≡ k

-- sixteen channels; channel w is the channel named by entry w below
unfoldable pub carded : List ℕ → Meaning → Meaning
carded e m = record {
  links = m.links;
  channels = 16;
  limit = m.limit;
  closed = λ l w h. cond (named w) (m.closed l (card e w) h) true;
  live = λ l w f. cond (named w) (m.live l (card e w) f) 0;
}

-- a run as the plant below names it
abbrev pub recarded : List ℕ → Run → Run
recarded e r = record { link = r.link; channel = card e r.channel; first = r.first; hours = r.hours }

-- some entry is no number from 1 to 16, or stands earlier too
unfoldable pub disordered : List ℕ → Bool
disordered e = any 16 (λ i. not (named (slice_index e i)) || any i (λ j. nat_eq (slice_index e j) (slice_index e i)))
