-- A run put into one row of the tables, or taken out, changes the live runs by just that run.
use Rattle.std.proofs.Common.{◌≡◌, ℕ, ◌+◌, ◌*◌, ◌%◌, ◌<◌, ◌≤◌, Bool, true, cond, not, sym, ◌∙◌, ⊎_elim, arith}
use Rattle.std.proofs.lemmas.Bool.{cases_eq, cases_Bool, cond-true, cond-false}
use Rattle.calendar.specs.Meaning.{Meaning, within, with_run, put}
use Rattle.calendar.specs.declared.run.Run.{Run}
use Rattle.calendar.proofs.Kept.{put_here, put_link, put_channel, put_hour}
use Rattle.calendar.proofs.Plants.{inside_parts, inside_from}
use Rattle.calendar.proofs.Sums.{any_cong}
use Rattle.hour_bits.specs.Bits.{goes_on, hours_of, SoundRow, more_hours, fewer_hours}
use Rattle.hour_bits.specs.Tables.{Table, mapped}
use Rattle.hour_bits.proofs.Circle.{Free}
use Rattle.hour_bits.proofs.Runs.{RunAt, run_there, hours_are, hours_none}
use Rattle.hour_bits.proofs.Hold as hold
use Rattle.hour_bits.proofs.Release as release

abbrev pub Within : ℕ → ℕ → ℕ → ℕ → Type 0
Within L C l c = (1 ≤ l) × (l ≤ L) × (1 ≤ c) × (c ≤ C)

-- a plant of that size, for the laws of `within`
abbrev sized : ℕ → ℕ → Meaning
sized L C = record { links = L; channels = C; limit = 0; closed = λ _ _ _. true; live = λ _ _ _. 0 }

pub within_parts : (L C l c h : ℕ) → within L C l c h ≡ true → Within L C l c × (h < 168)
within_parts L C l c h e = let p = inside_parts (sized L C) l c h e in ((p.0, p.1, p.2, p.3), p.4)

pub within_from : (L C l c h : ℕ) → Within L C l c → h < 168 → within L C l c h ≡ true
within_from L C l c h w p = inside_from (sized L C) l c h w.0 w.1 w.2 w.3 p

abbrev pub Sounds : ℕ → ℕ → Table → Table → Type 0
Sounds L C held start = (l c : ℕ) → Within L C l c → SoundRow (held l c) (start l c)

-- the table t' is t with a new row for l and c
pub record Changed (L C : ℕ) (t t' : Table) (l c : ℕ) (new : ℕ → Bool) : Type 0 where
  pub here : (h : ℕ) → h < 168 → t' l c h ≡ new h
  pub there : (x y : ℕ) → Within L C x y → ((x ≡ l) × (y ≡ c) → ⊥) → (h : ℕ) → h < 168 → t' x y h ≡ t x y h

abbrev pub live_of : ℕ → ℕ → Table → Table → ℕ → ℕ → ℕ → ℕ
live_of L C held start l c f = cond (within L C l c f) (hours_of (held l c) (start l c) f) 0

pub live_hours : (L C : ℕ) (held start : Table) (l c f : ℕ) → Within L C l c → f < 168 → live_of L C held start l c f ≡ hours_of (held l c) (start l c) f
live_hours L C held start l c f w p = cond-true (within L C l c f) _ 0 (within_from L C l c f w p)

-- rows with the same bits have the same runs
module _ (H S H' S' : ℕ → Bool) (eh : (h : ℕ) → h < 168 → H' h ≡ H h) (es : (h : ℕ) → h < 168 → S' h ≡ S h) where
  same_run : (f n : ℕ) → f < 168 → RunAt H S f n → RunAt H' S' f n
  same_run f n q r = record {
    begins = es f q ∙ r.begins;
    some = r.some;
    most = r.most;
    goes = λ h p u v. let g = r.goes h p u v in (eh h p ∙ g.0, es h p ∙ g.1);
    ends = λ h p u v. es h p ∙ r.ends h p u (sym (eh h p) ∙ v);
  }

  pub same_hours : (f : ℕ) → f < 168 → hours_of H' S' f ≡ hours_of H S f
  same_hours f q =
      ⊎_elim (λ y. hours_are H' S' q (same_run f _ q (run_there H S f q y)))
      (λ y. hours_none H' S' f (es f q ∙ y) ∙ sym (hours_none H S f y)) (cases_Bool (S f))

  same_sound : SoundRow H S → SoundRow H' S'
  same_sound s = record {
    starts = λ h p y. eh h p ∙ s.starts h p (sym (es h p) ∙ y);
    joined = λ h p y z. eh ((h + 167) % 168) (omega arith) ∙ s.joined h p (sym (eh h p) ∙ y) (sym (es h p) ∙ z);
    begun = any_cong 168 (λ h. not (goes_on H' S' h)) (λ h. not (goes_on H S h)) (λ h p. rw (eh h p, es h p)) ∙ s.begun;
  }

-- what one changed row does to the live runs
module _ (L C : ℕ) (held start held' start' : Table) (r : Run) (n : ℕ) (w : Within L C r.link r.channel) (pa : r.first < 168)
    (u v : ℕ → Bool) (ch : Changed L C held held' r.link r.channel u) (cs : Changed L C start start' r.link r.channel v)
    (here : hours_of (held' r.link r.channel) (start' r.link r.channel) r.first ≡ n)
    (there : (f : ℕ) → f < 168 → (f ≡ r.first → ⊥) → hours_of (held' r.link r.channel) (start' r.link r.channel) f ≡ hours_of (held r.link r.channel) (start r.link r.channel) f) where
  either_way : (x y f : ℕ) → (Within L C x y → f < 168 → hours_of (held' x y) (start' x y) f ≡ hours_of (held x y) (start x y) f) → live_of L C held' start' x y f ≡ live_of L C held start x y f
  either_way x y f e =
      ⊎_elim
      (λ t. let p = within_parts L C x y f t in cond-true (within L C x y f) _ 0 t ∙ e p.0 p.1 ∙ sym (cond-true (within L C x y f) _ 0 t))
      (λ t. cond-false (within L C x y f) _ 0 t ∙ sym (cond-false (within L C x y f) _ 0 t))
      (cases_Bool (within L C x y f))

  other_row : (x y f : ℕ) → ((x ≡ r.link) × (y ≡ r.channel) → ⊥) → live_of L C held' start' x y f ≡ live_of L C held start x y f
  other_row x y f ne = either_way x y f (λ i q. same_hours (held x y) (start x y) (held' x y) (start' x y) (ch.there x y i ne) (cs.there x y i ne) f q)

  live_changed : (x y f : ℕ) → live_of L C held' start' x y f ≡ put (live_of L C held start) r.link r.channel r.first n x y f
  live_changed x y f =
      ⊎_elim
      (λ (a : x ≡ r.link). ⊎_elim
      (λ (b : y ≡ r.channel). ⊎_elim
      (λ (d : f ≡ r.first). rw (a, b, d) (live_hours L C held' start' r.link r.channel r.first w pa ∙ here ∙ sym (put_here (live_of L C held start) r.link r.channel r.first n)))
      (λ (d : f ≡ r.first → ⊥). rw (a, b) (either_way r.link r.channel f (λ _ q. there f q d)) ∙ sym (put_hour (live_of L C held start) r.link r.channel r.first n x y f d))
      (cases_eq f r.first))
      (λ b. other_row x y f (λ o. b o.1) ∙ sym (put_channel (live_of L C held start) r.link r.channel r.first n x y f b))
      (cases_eq y r.channel))
      (λ a. other_row x y f (λ o. a o.0) ∙ sym (put_link (live_of L C held start) r.link r.channel r.first n x y f a))
      (cases_eq x r.link)

  means_changed : mapped L C held' start' ≡ with_run (mapped L C held start) r n
  unfolding mapped with_run
  means_changed = λ i. record { links = L; channels = C; limit = L * C * 168; closed = λ x y h. not (within L C x y h); live = λ x y f. live_changed x y f i }

  sounds_changed : Sounds L C held start → SoundRow (held' r.link r.channel) (start' r.link r.channel) → Sounds L C held' start'
  sounds_changed all one x y i =
      let other : ((x ≡ r.link) × (y ≡ r.channel) → ⊥) → SoundRow (held' x y) (start' x y) = λ o.
      same_sound (held x y) (start x y) (held' x y) (start' x y) (ch.there x y i o) (cs.there x y i o) (all x y i) in
      ⊎_elim
      (λ (e : x ≡ r.link). ⊎_elim
      (λ (d : y ≡ r.channel). rw (e, d) one)
      (λ d. other (λ o. d o.1))
      (cases_eq y r.channel))
      (λ e. other (λ o. e o.0))
      (cases_eq x r.link)

-- the two changes of a plant
module _ (L C : ℕ) (held start held' start' : Table) (r : Run) (w : Within L C r.link r.channel) (pa : r.first < 168) (all : Sounds L C held start) where
  module _ (pn : 1 ≤ r.hours) (qn : r.hours ≤ 168) (free : Free (held r.link r.channel) r.first r.hours)
      (ch : Changed L C held held' r.link r.channel (more_hours (held r.link r.channel) r.first r.hours))
      (cs : Changed L C start start' r.link r.channel (more_hours (start r.link r.channel) r.first 1)) where
    new_here : hours_of (held' r.link r.channel) (start' r.link r.channel) r.first ≡ r.hours
    new_here = hold.put_here (held r.link r.channel) (start r.link r.channel) (held' r.link r.channel) (start' r.link r.channel) r.first r.hours pa pn qn (all r.link r.channel w) free ch.here cs.here

    old_there : (f : ℕ) → f < 168 → (f ≡ r.first → ⊥) → hours_of (held' r.link r.channel) (start' r.link r.channel) f ≡ hours_of (held r.link r.channel) (start r.link r.channel) f
    old_there = hold.put_there (held r.link r.channel) (start r.link r.channel) (held' r.link r.channel) (start' r.link r.channel) r.first r.hours pa pn qn (all r.link r.channel w) free ch.here cs.here

    pub hold_means : mapped L C held' start' ≡ with_run (mapped L C held start) r r.hours
    hold_means = means_changed L C held start held' start' r r.hours w pa _ _ ch cs new_here old_there

    pub hold_sounds : Sounds L C held' start'
    hold_sounds =
        sounds_changed L C held start held' start' r r.hours w pa _ _ ch cs new_here old_there all
        (hold.put_sound (held r.link r.channel) (start r.link r.channel) (held' r.link r.channel) (start' r.link r.channel) r.first r.hours pa pn qn (all r.link r.channel w) free ch.here cs.here)

  module _ (run : RunAt (held r.link r.channel) (start r.link r.channel) r.first r.hours)
      (ch : Changed L C held held' r.link r.channel (fewer_hours (held r.link r.channel) r.first r.hours))
      (cs : Changed L C start start' r.link r.channel (fewer_hours (start r.link r.channel) r.first 1)) where
    none_here : hours_of (held' r.link r.channel) (start' r.link r.channel) r.first ≡ 0
    none_here = release.cut_here (held r.link r.channel) (start r.link r.channel) (held' r.link r.channel) (start' r.link r.channel) r.first r.hours pa (all r.link r.channel w) run ch.here cs.here

    rest_there : (f : ℕ) → f < 168 → (f ≡ r.first → ⊥) → hours_of (held' r.link r.channel) (start' r.link r.channel) f ≡ hours_of (held r.link r.channel) (start r.link r.channel) f
    rest_there = release.cut_there (held r.link r.channel) (start r.link r.channel) (held' r.link r.channel) (start' r.link r.channel) r.first r.hours pa (all r.link r.channel w) run ch.here cs.here

    pub release_means : mapped L C held' start' ≡ with_run (mapped L C held start) r 0
    release_means = means_changed L C held start held' start' r 0 w pa _ _ ch cs none_here rest_there

    pub release_sounds : Sounds L C held' start'
    release_sounds =
        sounds_changed L C held start held' start' r 0 w pa _ _ ch cs none_here rest_there all
        (release.cut_sound (held r.link r.channel) (start r.link r.channel) (held' r.link r.channel) (start' r.link r.channel) r.first r.hours pa (all r.link r.channel w) run ch.here cs.here)
