-- A clock over a plant.
use Rattle.std.proofs.Common.{◌≡◌, ℕ, suc, ◌-◌, ◌<◌, ◌≤◌, min, Bool, true, false, cond, ◌&&◌, eqb, ltb, leb, sym, refl, ap, ◌∙◌, ⊎_elim, arith}
use mathlib.Core.Path.{fun_ext}
use Rattle.std.proofs.lemmas.Bool.{cases_lt, both_ways, lt-ltb, le-ltb, ne_eqb, and_right, cond-true, cond-false, cond_both}
use Rattle.calendar.specs.Week.{any, later, covers}
use Rattle.calendar.specs.Meaning.{Meaning, Sound, inside, proper, is_held, room_of, live_count, hold_number, after_hold, release_number, after_release, with_run, accepted, put}
use Rattle.calendar.specs.Layers.{clocked, moved}
use Rattle.calendar.specs.declared.run.Run.{Run}
use Rattle.calendar.proofs.Sums.{bool_same, any_intro, any_elim, any_cong, total_cong, total_rotate}
use Rattle.calendar.proofs.Plants.{eqb_same, hold_same, release_same, meets_cong}

pub any_rotate : (o : ℕ) → o < 168 → (p : ℕ → Bool) → any 168 (λ f. p (later f o)) ≡ any 168 p
any_rotate o h p =
    bool_same (any 168 (λ f. p (later f o))) (any 168 p)
    (λ e. let w = any_elim 168 (λ f. p (later f o)) e in any_intro 168 p (later w.0 o) (omega arith) w.2)
    (λ e. let w = any_elim 168 p e in
    let q : later (later w.0 (168 - o)) o ≡ w.0 = omega (arith, w.1) in
    any_intro 168 (λ f. p (later f o)) (later w.0 (168 - o)) (omega arith) (ap p q ∙ w.2))

pub covers_moved : (o f n h : ℕ) → o < 168 → f < 168 → h < 168 → covers f n h ≡ covers (later f o) n (later h o)
unfolding covers
covers_moved o f n h p q r =
    any_cong n (λ j. eqb (later f j) h) (λ j. eqb (later (later f o) j) (later h o))
    (λ j l. eqb_same (later f j) h (later (later f o) j) (later h o) (λ e. omega arith) (λ e. omega arith))

-- a plant with other live runs
abbrev relive : Meaning → (ℕ → ℕ → ℕ → ℕ) → Meaning
relive m g = record { links = m.links; channels = m.channels; limit = m.limit; closed = m.closed; live = g }

-- the run from another first hour on
abbrev pub from : Run → ℕ → Run
from r f = record { link = r.link; channel = r.channel; first = f; hours = r.hours }

pub both : {A B : Type 0} (f : A → B) (x y : B) (a b : A) (t : Bool) → x ≡ f a → y ≡ f b → cond t x y ≡ f (cond t a b)
both f x y a b true p q = p
both f x y a b false p q = q

module _ (o : ℕ) (small : o < 168) (m : Meaning) where
  pub held_clocked : (l c h : ℕ) → h < 168 → is_held (clocked o m) l c h ≡ is_held m l c (later h o)
  unfolding is_held clocked
  held_clocked l c h b =
      any_cong 168 (λ f. covers f (cond (ltb f 168) (m.live l c (later f o)) 0) h) (λ f. covers (later f o) (m.live l c (later f o)) (later h o))
      (λ f q. ap (λ n. covers f n h) (cond-true (ltb f 168) _ _ (lt-ltb f 168 q)) ∙ covers_moved o f (m.live l c (later f o)) h small q b)
      ∙ any_rotate o small (λ f. covers f (m.live l c f) (later h o))

  pub count_clocked : live_count (clocked o m) ≡ live_count m
  unfolding live_count clocked
  count_clocked =
      total_cong m.links _ _ (λ l _. total_cong m.channels _ _ (λ c _.
      total_cong 168 (λ f. min 1 (cond (ltb f 168) (m.live (suc l) (suc c) (later f o)) 0)) (λ f. min 1 (m.live (suc l) (suc c) (later f o))) (λ f q. ap (min 1) (cond-true (ltb f 168) _ _ (lt-ltb f 168 q)))
      ∙ total_rotate o small (λ f. min 1 (m.live (suc l) (suc c) f))))

  pub room_clocked : room_of (clocked o m) ≡ room_of m
  unfolding room_of clocked
  room_clocked = ap (λ n. m.limit - n) count_clocked

  pub inside_clocked : (l c h : ℕ) → h < 168 → inside (clocked o m) l c h ≡ inside m l c (later h o)
  unfolding clocked
  inside_clocked l c h b =
      ap (λ t. (leb 1 l && leb l m.links) && ((leb 1 c && leb c m.channels) && t)) (lt-ltb h 168 b ∙ sym (lt-ltb (later h o) 168 (omega arith)))

  pub proper_clocked : (r : Run) → r.first < 168 → proper (clocked o m) r ≡ proper m (moved o r)
  unfolding proper
  proper_clocked r b = ap (λ t. t && (leb 1 r.hours && leb r.hours 168)) (inside_clocked r.link r.channel r.first b)

  pub closed_clocked : (l c h : ℕ) → h < 168 → (clocked o m).closed l c h ≡ m.closed l c (later h o)
  unfolding clocked
  closed_clocked l c h b = cond-true (ltb h 168) _ _ (lt-ltb h 168 b)

  pub live_clocked : (l c f : ℕ) → f < 168 → (clocked o m).live l c f ≡ m.live l c (later f o)
  unfolding clocked
  live_clocked l c f b = cond-true (ltb f 168) _ _ (lt-ltb f 168 b)

  swapped : (f j : ℕ) → later (later f j) o ≡ later (later f o) j
  swapped f j = omega arith

  pub hold_clocked : (r : Run) → r.first < 168 → hold_number (clocked o m) r ≡ hold_number m (moved o r)
  hold_clocked r b =
      hold_same (clocked o m) m r (moved o r) (proper_clocked r b)
      (meets_cong (clocked o m).closed m.closed r (moved o r) refl (λ j _. closed_clocked r.link r.channel (later r.first j) (omega arith) ∙ ap (m.closed r.link r.channel) (swapped r.first j)))
      (meets_cong (is_held (clocked o m)) (is_held m) r (moved o r) refl (λ j _. held_clocked r.link r.channel (later r.first j) (omega arith) ∙ ap (is_held m r.link r.channel) (swapped r.first j)))
      room_clocked

  pub release_clocked : (r : Run) → r.first < 168 → release_number (clocked o m) r ≡ release_number m (moved o r)
  release_clocked r b = release_same (clocked o m) m r (moved o r) (proper_clocked r b) (live_clocked r.link r.channel r.first b) refl

  put_clocked : (r : Run) (n : ℕ) → r.first < 168 → (x y z : ℕ) → put (clocked o m).live r.link r.channel r.first n x y z ≡ (clocked o (with_run m (moved o r) n)).live x y z
  unfolding put clocked with_run
  put_clocked r n b x y z =
      ⊎_elim
      (λ (q : z < 168).
      let e : eqb z r.first ≡ eqb (later z o) (later r.first o) = eqb_same z r.first (later z o) (later r.first o) (λ e. omega arith) (λ e. omega arith) in
      let k : ltb z 168 ≡ true = lt-ltb z 168 q in
      rw (k, e))
      (λ (q : 168 ≤ z).
      let e : eqb z r.first ≡ false = ne_eqb z r.first (λ e. omega arith) in
      let k : ltb z 168 ≡ false = le-ltb z 168 q in
      rw (k, e) (cond-false (eqb x r.link && (eqb y r.channel && false)) n 0 (and_right (eqb x r.link) (eqb y r.channel && false) (and_right (eqb y r.channel) false refl))))
      (cases_lt z 168)

  pub with_run_clocked : (r : Run) (n : ℕ) → r.first < 168 → with_run (clocked o m) r n ≡ clocked o (with_run m (moved o r) n)
  unfolding with_run clocked put
  with_run_clocked r n b =
      let same : (g h : ℕ → ℕ → ℕ → ℕ) → g ≡ h → ◌≡◌ {A = Meaning} (relive (clocked o m) g) (relive (clocked o m) h) = λ g h e. ap (relive (clocked o m)) e in
      same _ _ (fun_ext (λ x. fun_ext (λ y. fun_ext (λ z. put_clocked r n b x y z))))

  pub after_hold_clocked : (r : Run) → r.first < 168 → after_hold (clocked o m) r ≡ clocked o (after_hold m (moved o r))
  unfolding after_hold
  after_hold_clocked r b = rw (hold_clocked r b) (both (clocked o) _ _ _ _ (accepted (hold_number m (moved o r))) (with_run_clocked r r.hours b) refl)

  pub after_release_clocked : (r : Run) → r.first < 168 → after_release (clocked o m) r ≡ clocked o (after_release m (moved o r))
  unfolding after_release
  after_release_clocked r b = rw (release_clocked r b) (both (clocked o) _ _ _ _ (accepted (release_number m (moved o r))) (with_run_clocked r 0 b) refl)

  pub closed_late : (l c h : ℕ) → 168 ≤ h → true ≡ (clocked o m).closed l c h
  unfolding clocked
  closed_late l c h b = sym (cond-false (ltb h 168) _ _ (le-ltb h 168 b))

  -- what the call below, with the first hour f, answers and leaves is what the clock owes
  pub hold_through : (r : Run) (f : ℕ) → r.first < 168 → f ≡ later r.first o → (a : ℕ) (x : Meaning) → a ≡ hold_number m (from r f) → x ≡ after_hold m (from r f) → record { answer : a ≡ hold_number (clocked o m) r; after : clocked o x ≡ after_hold (clocked o m) r }
  hold_through r f b e a x p q = record {
    answer = p ∙ ap (λ k. hold_number m (from r k)) e ∙ sym (hold_clocked r b);
    after = ap (clocked o) (q ∙ ap (λ k. after_hold m (from r k)) e) ∙ sym (after_hold_clocked r b);
  }

  pub release_through : (r : Run) (f : ℕ) → r.first < 168 → f ≡ later r.first o → (a : ℕ) (x : Meaning) → a ≡ release_number m (from r f) → x ≡ after_release m (from r f) → record { answer : a ≡ release_number (clocked o m) r; after : clocked o x ≡ after_release (clocked o m) r }
  release_through r f b e a x p q = record {
    answer = p ∙ ap (λ k. release_number m (from r k)) e ∙ sym (release_clocked r b);
    after = ap (clocked o) (q ∙ ap (λ k. after_release m (from r k)) e) ∙ sym (after_release_clocked r b);
  }

  pub clocked_sound : Sound m → Sound (clocked o m)
  unfolding clocked
  clocked_sound s = record {
    some_links = s.some_links;
    few_links = s.few_links;
    some_channels = s.some_channels;
    few_channels = s.few_channels;
    open_inside = λ l c h e. ⊎_elim (λ q. inside_clocked l c h q ∙ s.open_inside l c (later h o) (sym (closed_clocked l c h q) ∙ e)) (λ q. absurd (both_ways _ e (cond-false (ltb h 168) _ true (le-ltb h 168 q)))) (cases_lt h 168);
    live_inside = λ l c f e. ⊎_elim (λ q. inside_clocked l c f q ∙ s.live_inside l c (later f o) (rw (live_clocked l c f q) at e)) (λ q. absurd (let z : (clocked o m).live l c f ≡ 0 = cond-false (ltb f 168) _ 0 (le-ltb f 168 q) in omega (arith, e, z))) (cases_lt f 168);
    live_short = λ l c f. short l c f;
    apart = λ l c f g i j a b e. apart_clocked l c f g i j a b e;
    few = omega (arith, count_clocked, s.few);
  } where
    short : (l c f : ℕ) → (clocked o m).live l c f ≤ 168
    short l c f = cond_both (ltb f 168) (m.live l c (later f o)) 0 (λ x. x ≤ 168) (λ _. s.live_short l c (later f o)) (λ _. omega arith)

    week : (l c f i : ℕ) → i < (clocked o m).live l c f → f < 168
    week l c f i a = ⊎_elim (λ q. q) (λ q. absurd (let z : cond (ltb f 168) (m.live l c (later f o)) 0 ≡ 0 = cond-false (ltb f 168) _ 0 (le-ltb f 168 q) in omega (arith, a, z))) (cases_lt f 168)

    apart_clocked : (l c f g i j : ℕ) → i < (clocked o m).live l c f → j < (clocked o m).live l c g → later f i ≡ later g j → f ≡ g
    apart_clocked l c f g i j a b e =
        let p = week l c f i a in
        let q = week l c g j b in
        let z = s.apart l c (later f o) (later g o) i j (rw (live_clocked l c f p) at a) (rw (live_clocked l c g q) at b) (omega (arith, e)) in
        omega (arith, p, q, z)
