-- Two plants that agree on what a call looks at answer alike.
use Rattle.std.proofs.Common.{◌≡◌, ℕ, ◌<◌, ◌≤◌, Bool, true, false, ◌&&◌, eqb, ltb, leb, Err, sym, ap, ◌∙◌, ⊎_elim, arith}
use Rattle.std.proofs.lemmas.Bool.{cases_Bool, and_parts, and_from, lt-ltb, ltb-true, leb-true, le-leb, eqb-true, eq-eqb}
use Rattle.calendar.specs.Week.{any, later, covers}
use Rattle.calendar.specs.Numbers.{answer_number}
use Rattle.calendar.specs.declared.run.Size.{Size}
use Rattle.calendar.specs.Meaning.{size_of, fits, Meaning, inside, proper, meets, is_held, room_of, hold_number, after_hold, release_number, after_release, accepted}
use Rattle.calendar.specs.declared.run.Run.{Run}
use Rattle.calendar.specs.declared.refusal.PlantRefusal.TheVariants.{OutOfRange}
use Rattle.calendar.proofs.Circle.{covers_late}
use Rattle.calendar.proofs.Sums.{bool_same, any_cong, any_false}

pub eqb_same : (a b c d : ℕ) → (a ≡ b → c ≡ d) → (c ≡ d → a ≡ b) → eqb a b ≡ eqb c d
eqb_same a b c d f g = bool_same (eqb a b) (eqb c d) (λ e. eq-eqb c d (f (eqb-true a b e))) (λ e. eq-eqb a b (g (eqb-true c d e)))

-- a run that fits the size that the plant tells
pub proper_size : (m : Meaning) (r : Run) (s : Size) → s ≡ size_of m → fits s.links s.channels r ≡ proper m r
unfolding proper
proper_size m r s e = ap (λ x. fits x.links x.channels r) e

pub hold_same : (m n : Meaning) (r s : Run) → proper m r ≡ proper n s → meets m.closed r ≡ meets n.closed s → meets (is_held m) r ≡ meets (is_held n) s → room_of m ≡ room_of n → hold_number m r ≡ hold_number n s
unfolding hold_number
hold_same m n r s p q h e = cc

pub release_same : (m n : Meaning) (r s : Run) → proper m r ≡ proper n s → m.live r.link r.channel r.first ≡ n.live s.link s.channel s.first → r.hours ≡ s.hours → release_number m r ≡ release_number n s
unfolding release_number
release_same m n r s p q h = cc

pub meets_cong : (p q : ℕ → ℕ → ℕ → Bool) (r s : Run) → r.hours ≡ s.hours → ((j : ℕ) → j < r.hours → p r.link r.channel (later r.first j) ≡ q s.link s.channel (later s.first j)) → meets p r ≡ meets q s
unfolding meets
meets_cong p q r s e h = any_cong r.hours _ (λ j. q s.link s.channel (later s.first j)) h ∙ ap (λ n. any n (λ j. q s.link s.channel (later s.first j))) e

record Inside (m : Meaning) (l c h : ℕ) : Type 0 where
  pub l_low : 1 ≤ l
  pub l_high : l ≤ m.links
  pub c_low : 1 ≤ c
  pub c_high : c ≤ m.channels
  pub hour : h < 168

pub inside_parts : (m : Meaning) (l c h : ℕ) → inside m l c h ≡ true → (1 ≤ l) × (l ≤ m.links) × (1 ≤ c) × (c ≤ m.channels) × (h < 168)
inside_parts m l c h e =
    let a = and_parts (leb 1 l && leb l m.links) ((leb 1 c && leb c m.channels) && ltb h 168) e in
    let b = and_parts (leb 1 l) (leb l m.links) a.0 in
    let d = and_parts (leb 1 c && leb c m.channels) (ltb h 168) a.1 in
    let f = and_parts (leb 1 c) (leb c m.channels) d.0 in
    (leb-true 1 l b.0, leb-true l m.links b.1, leb-true 1 c f.0, leb-true c m.channels f.1, ltb-true h 168 d.1)

pub inside_from : (m : Meaning) (l c h : ℕ) → 1 ≤ l → l ≤ m.links → 1 ≤ c → c ≤ m.channels → h < 168 → inside m l c h ≡ true
inside_from m l c h p q r s t =
    and_from (leb 1 l && leb l m.links) ((leb 1 c && leb c m.channels) && ltb h 168)
    (and_from (leb 1 l) (leb l m.links) (le-leb 1 l p) (le-leb l m.links q))
    (and_from (leb 1 c && leb c m.channels) (ltb h 168) (and_from (leb 1 c) (leb c m.channels) (le-leb 1 c r) (le-leb c m.channels s)) (lt-ltb h 168 t))

-- proper, taken apart
pub proper_parts : (m : Meaning) (r : Run) → proper m r ≡ true → (inside m r.link r.channel r.first ≡ true) × (1 ≤ r.hours) × (r.hours ≤ 168)
unfolding proper
proper_parts m r e =
    let a = and_parts (inside m r.link r.channel r.first) (leb 1 r.hours && leb r.hours 168) e in
    let b = and_parts (leb 1 r.hours) (leb r.hours 168) a.1 in
    (a.0, leb-true 1 r.hours b.0, leb-true r.hours 168 b.1)

-- a run that begins outside the week is not proper
pub improper_first : (m : Meaning) (r : Run) → 168 ≤ r.first → proper m r ≡ false
improper_first m r h =
    ⊎_elim (λ t. absurd (let p = inside_parts m r.link r.channel r.first (proper_parts m r t).0 in omega (arith, p.4))) (λ f. f) (cases_Bool (proper m r))

pub hold_improper : (m : Meaning) (r : Run) → proper m r ≡ false → hold_number m r ≡ 21
unfolding hold_number
hold_improper m r e = rw e

pub release_improper : (m : Meaning) (r : Run) → proper m r ≡ false → release_number m r ≡ 21
unfolding release_number
release_improper m r e = rw e

pub after_hold_err : (m : Meaning) (r : Run) → accepted (hold_number m r) ≡ false → after_hold m r ≡ m
unfolding after_hold
after_hold_err m r e = rw e

pub after_release_err : (m : Meaning) (r : Run) → accepted (release_number m r) ≡ false → after_release m r ≡ m
unfolding after_release
after_release_err m r e = rw e

-- no cell outside the week is held
pub held_late : (m : Meaning) (l c h : ℕ) → 168 ≤ h → is_held m l c h ≡ false
unfolding is_held
held_late m l c h b = any_false 168 (λ f. covers f (m.live l c f) h) (λ f _. covers_late f (m.live l c f) h b)

-- what a refusal of a run leaves
pub refused_hold : (m : Meaning) (r : Run) → proper m r ≡ false → record { answer : answer_number (Err OutOfRange) ≡ hold_number m r; after : m ≡ after_hold m r }
unfolding after_hold
refused_hold m r e = let a = hold_improper m r e in record { answer = sym a; after = rw a }

pub refused_release : (m : Meaning) (r : Run) → proper m r ≡ false → record { answer : answer_number (Err OutOfRange) ≡ release_number m r; after : m ≡ after_release m r }
unfolding after_release
refused_release m r e = let a = release_improper m r e in record { answer = sym a; after = rw a }
