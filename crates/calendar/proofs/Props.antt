-- What a plant keeps has at most one proof.
use Rattle.std.proofs.Common.{◌≡◌, ℕ, ◌≤◌, Bool, true, List}
use mathlib.Core.Logic.{∥∥₁_elim}
use denote.Struct.Props.{props}
use Rattle.calendar.specs.Meaning.{Meaning, Sound, inside, live_count}
use Rattle.calendar.specs.Rows.{Kept, tabled, used}
use Rattle.calendar.specs.declared.run.Run.{Run}

pub le_one : (a b : ℕ) → IsProp (a ≤ b)
le_one a b = hlevel props

pub bool_one : (a b : Bool) → IsProp (a ≡ b)
bool_one a b = hlevel props

pub nat_one : (a b : ℕ) → IsProp (a ≡ b)
nat_one a b = hlevel props

pub sound_one : (m : Meaning) → IsProp (Sound m)
sound_one m s t = λ i. record {
  some_links = le_one 1 m.links s.some_links t.some_links i;
  few_links = le_one m.links 40 s.few_links t.few_links i;
  some_channels = le_one 1 m.channels s.some_channels t.some_channels i;
  few_channels = le_one m.channels 16 s.few_channels t.few_channels i;
  open_inside = λ l c h e. bool_one (inside m l c h) true (s.open_inside l c h e) (t.open_inside l c h e) i;
  live_inside = λ l c f e. bool_one (inside m l c f) true (s.live_inside l c f e) (t.live_inside l c f e) i;
  live_short = λ l c f. le_one (m.live l c f) 168 (s.live_short l c f) (t.live_short l c f) i;
  apart = λ l c f g j k a b e. nat_one f g (s.apart l c f g j k a b e) (t.apart l c f g j k a b e) i;
  few = le_one (live_count m) m.limit s.few t.few i;
}

pub kept_one : (rows : List Run) (l c : ℕ) → IsProp (Kept rows l c)
kept_one rows l c s t = λ i. record {
  sound = sound_one (tabled rows l c) s.sound t.sound i;
  counted = nat_one (live_count (tabled rows l c)) (used rows) s.counted t.counted i;
  alone = λ j k a b d e q. nat_one j k (s.alone j k a b d e q) (t.alone j k a b d e q) i;
}

pub rows_kept : (rows : List Run) (l c : ℕ) → ∥ Kept rows l c ∥₁ → Kept rows l c
rows_kept rows l c k = ∥∥₁_elim k (kept_one rows l c) (λ x. x)

pub rows_sound : (rows : List Run) (l c : ℕ) → ∥ Kept rows l c ∥₁ → Sound (tabled rows l c)
rows_sound rows l c k = (rows_kept rows l c k).sound
