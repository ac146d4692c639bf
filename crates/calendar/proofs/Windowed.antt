-- Windows over a plant.
use Rattle.std.proofs.Common.{◌≡◌, ℕ, Bool, true, false, cond, ◌&&◌, ◌||◌, List, Err, sym, refl, ap, ◌∙◌}
use Rattle.std.proofs.lemmas.Bool.{both_ways, or_parts}
use Rattle.calendar.specs.Week.{later}
use Rattle.calendar.specs.Numbers.{answer_number}
use Rattle.calendar.specs.Meaning.{Meaning, Sound, proper, meets, is_held, room_of, live_count, hold_number, after_hold, release_number, after_release, with_run, accepted}
use Rattle.calendar.specs.Layers.{windowed, shut}
use Rattle.calendar.specs.declared.run.Run.{Run}
use Rattle.calendar.specs.declared.run.Window.{Window}
use Rattle.calendar.specs.declared.refusal.PlantRefusal.TheVariants.{CellClosed}
use Rattle.calendar.proofs.Sums.{any_or}
use Rattle.calendar.proofs.Plants.{release_same}

module _ (ws : List Window) (n : ℕ) (m : Meaning) where
  -- some cell of the run is in a window
  abbrev pub barred : Run → Bool
  barred r = meets (λ l _ h. shut ws n l h) r

  pub meets_windowed : (r : Run) → meets (windowed ws n m).closed r ≡ (meets m.closed r || barred r)
  unfolding meets windowed
  meets_windowed r = any_or r.hours (λ j. m.closed r.link r.channel (later r.first j)) (λ j. shut ws n r.link (later r.first j))

  pub proper_windowed : (r : Run) → proper (windowed ws n m) r ≡ proper m r
  unfolding proper windowed
  proper_windowed r = refl

  held_windowed : is_held (windowed ws n m) ≡ is_held m
  unfolding is_held windowed
  held_windowed = refl

  pub room_windowed : room_of (windowed ws n m) ≡ room_of m
  unfolding room_of live_count windowed
  room_windowed = refl

  with_windowed : (r : Run) (k : ℕ) → with_run (windowed ws n m) r k ≡ windowed ws n (with_run m r k)
  unfolding with_run windowed
  with_windowed r k = refl

  pub hold_open : (r : Run) → (proper m r && barred r) ≡ false → hold_number (windowed ws n m) r ≡ hold_number m r
  unfolding hold_number
  hold_open r e = rw (meets_windowed r, proper_windowed r, room_windowed, held_windowed) (case _ _ _ (proper m r) (meets m.closed r) (barred r) e) where
    case : {A : Type 0} (x y z : A) (p a b : Bool) → (p && b) ≡ false → cond p (cond (a || b) x y) z ≡ cond p (cond a x y) z
    case x y z true true b e = refl
    case x y z true false true e = absurd (both_ways true e refl)
    case x y z true false false e = refl
    case x y z false a b e = refl

  pub hold_barred : (r : Run) → proper m r ≡ true → barred r ≡ true → hold_number (windowed ws n m) r ≡ 22
  unfolding hold_number
  hold_barred r p b = rw (meets_windowed r, proper_windowed r, p, b) (case _ _ (meets m.closed r)) where
    case : {A : Type 0} (x y : A) (a : Bool) → cond (a || true) x y ≡ x
    case x y true = refl
    case x y false = refl

  pub hold_through : (r : Run) → (proper m r && barred r) ≡ false → (a : ℕ) (x : Meaning) → a ≡ hold_number m r → x ≡ after_hold m r → record { answer : a ≡ hold_number (windowed ws n m) r; after : windowed ws n x ≡ after_hold (windowed ws n m) r }
  unfolding after_hold
  hold_through r e a x p q = record {
    answer = p ∙ sym (hold_open r e);
    after = ap (windowed ws n) q ∙ (rw (hold_open r e) (case (accepted (hold_number m r))));
  } where
    case : (t : Bool) → windowed ws n (cond t (with_run m r r.hours) m) ≡ cond t (with_run (windowed ws n m) r r.hours) (windowed ws n m)
    case true = sym (with_windowed r r.hours)
    case false = refl

  pub hold_refused : (r : Run) → proper m r ≡ true → barred r ≡ true → record { answer : answer_number (Err CellClosed) ≡ hold_number (windowed ws n m) r; after : windowed ws n m ≡ after_hold (windowed ws n m) r }
  unfolding after_hold
  hold_refused r p b = let e = hold_barred r p b in record { answer = sym e; after = rw e }

  live_windowed : (l c f : ℕ) → (windowed ws n m).live l c f ≡ m.live l c f
  unfolding windowed
  live_windowed l c f = refl

  pub release_through : (r : Run) → (a : ℕ) (x : Meaning) → a ≡ release_number m r → x ≡ after_release m r → record { answer : a ≡ release_number (windowed ws n m) r; after : windowed ws n x ≡ after_release (windowed ws n m) r }
  unfolding after_release
  release_through r a x p q =
      let e : release_number (windowed ws n m) r ≡ release_number m r = same r in
      record { answer = p ∙ sym e; after = ap (windowed ws n) q ∙ (rw e (case (accepted (release_number m r)))) } where
        same : (r : Run) → release_number (windowed ws n m) r ≡ release_number m r
        same r = release_same (windowed ws n m) m r r (proper_windowed r) (live_windowed r.link r.channel r.first) refl

        case : (t : Bool) → windowed ws n (cond t (with_run m r 0) m) ≡ cond t (with_run (windowed ws n m) r 0) (windowed ws n m)
        case true = sym (with_windowed r 0)
        case false = refl

  pub windowed_sound : Sound m → Sound (windowed ws n m)
  unfolding windowed live_count
  windowed_sound s = record {
    some_links = s.some_links;
    few_links = s.few_links;
    some_channels = s.some_channels;
    few_channels = s.few_channels;
    open_inside = λ l c h e. s.open_inside l c h (or_parts (m.closed l c h) (shut ws n l h) e).0;
    live_inside = s.live_inside;
    live_short = s.live_short;
    apart = s.apart;
    few = s.few;
  }
