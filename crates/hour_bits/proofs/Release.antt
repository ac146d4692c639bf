-- A run taken out of a sound row is gone from its runs, and nothing else changes; an hour is held where a run covers it.
use Rattle.std.proofs.Common.{◌≡◌, ℕ, zero, suc, ◌+◌, ◌-◌, ◌%◌, ◌<◌, ◌≤◌, Bool, true, false, not, ◌&&◌, sym, refl, ap, ◌∙◌, ⊎_elim, arith}
use Rattle.std.proofs.lemmas.Bool.{both_ways, cases_lt, cases_eq, cases_Bool, lt-ltb, le-ltb, eq-eqb, ne_eqb, and_left, and_right, and_from, not_from_true, not_from_false, not-true}
use Rattle.calendar.proofs.Sums.{any_intro, any_elim}
use Rattle.hour_bits.specs.Bits.{goes_on, hours_of, SoundRow, fewer_hours}
use Rattle.hour_bits.proofs.Circle.{ahead, covers_ahead, covers_one}
use Rattle.hour_bits.proofs.Runs.{RunAt, run_there, hours_are, hours_none, hours_some, apart}

and_true : (x y : Bool) → y ≡ true → (x && y) ≡ x
and_true true y e = e
and_true false y e = refl

module _ (H S H' S' : ℕ → Bool) (a n : ℕ) (pa : a < 168) (sound : SoundRow H S) (run : RunAt H S a n)
    (held-is : (h : ℕ) → h < 168 → H' h ≡ fewer_hours H a n h) (start_is : (h : ℕ) → h < 168 → S' h ≡ fewer_hours S a 1 h) where
  in_run : (h : ℕ) → h < 168 → ahead a h < n → H' h ≡ false
  in_run h p l = held-is h p ∙ and_right (H h) _ (not_from_true _ (covers_ahead a n h pa p ∙ lt-ltb (ahead a h) n l))

  out_run : (h : ℕ) → h < 168 → n ≤ ahead a h → H' h ≡ H h
  out_run h p l = held-is h p ∙ and_true (H h) _ (not_from_false _ (covers_ahead a n h pa p ∙ le-ltb (ahead a h) n l))

  at_first : S' a ≡ false
  at_first = start_is a pa ∙ and_right (S a) _ (not_from_true _ (covers_one a a pa pa ∙ eq-eqb a a refl))

  elsewhere : (h : ℕ) → h < 168 → (h ≡ a → ⊥) → S' h ≡ S h
  elsewhere h p ne = start_is h p ∙ and_true (S h) _ (not_from_false _ (covers_one a h pa p ∙ ne_eqb h a ne))

  outside : (h : ℕ) → h < 168 → H' h ≡ true → n ≤ ahead a h
  outside h p y = ⊎_elim (λ l. absurd (both_ways (H' h) (in_run h p l) y)) (λ l. l) (cases_lt (ahead a h) n)

  away : (h : ℕ) → h < 168 → n ≤ ahead a h → S' h ≡ S h
  away h p l = let some = run.some in elsewhere h p (λ e. omega arith)

  cut_old : (f m : ℕ) → f < 168 → (f ≡ a → ⊥) → RunAt H S f m → RunAt H' S' f m
  cut_old f m q ne r = record {
    begins = elsewhere f q ne ∙ r.begins;
    some = r.some;
    most = r.most;
    goes = λ h p u v.
        let g = r.goes h p u v in
        let l : n ≤ ahead a h = ⊎_elim (λ x. absurd (apart pa q p run r ne x v)) (λ x. x) (cases_lt (ahead a h) n) in
        (out_run h p l ∙ g.0, away h p l ∙ g.1);
    ends = λ h p e y. let l = outside h p y in away h p l ∙ r.ends h p e (sym (out_run h p l) ∙ y);
  }

  pub cut_sound : SoundRow H' S'
  cut_sound = record {
    starts = λ h p y.
        let ne : h ≡ a → ⊥ = λ e. both_ways (S' a) at_first (sym (ap S' e) ∙ y) in
        let s : S h ≡ true = sym (elsewhere h p ne) ∙ y in
        let l : n ≤ ahead a h = ⊎_elim (λ x. absurd (both_ways (S h) (run.goes h p (omega arith) x).1 s)) (λ x. x) (cases_lt (ahead a h) n) in
        out_run h p l ∙ sound.starts h p s;
    joined = λ h p y z.
        let l = outside h p y in
        let k : ℕ = (h + 167) % 168 in
        let s : S h ≡ false = sym (away h p l) ∙ z in
        let t : H h ≡ true = sym (out_run h p l) ∙ y in
        let some = run.some in
        let m : n ≤ ahead a k = ⊎_elim (λ x. absurd (both_ways (S h) s (run.ends h p (omega arith) t))) (λ x. x) (cases_lt (ahead a k) n) in
        out_run k (omega arith) m ∙ sound.joined h p t s;
    begun = let some = run.some in any_intro 168 (λ h. not (goes_on H' S' h)) a pa (not_from_false (goes_on H' S' a) (and_left (H' a) (not (S' a)) (in_run a pa (omega arith))));
  }

  pub cut_here : hours_of H' S' a ≡ 0
  cut_here = hours_none H' S' a at_first

  pub cut_there : (f : ℕ) → f < 168 → (f ≡ a → ⊥) → hours_of H' S' f ≡ hours_of H S f
  cut_there f q ne =
      ⊎_elim
      (λ y. hours_are H' S' q (cut_old f _ q ne (run_there H S f q y)))
      (λ y. hours_none H' S' f (elsewhere f q ne ∙ y) ∙ sym (hours_none H S f y))
      (cases_Bool (S f))

module _ (H S : ℕ → Bool) (sound : SoundRow H S) where
  pub covered_held : (f h : ℕ) → f < 168 → h < 168 → ahead f h < hours_of H S f → H h ≡ true
  covered_held f h p q l =
      let s = hours_some H S f (omega arith) in
      ⊎_elim (λ (e : ahead f h ≡ 0). let i : h ≡ f = omega arith in ap H i ∙ sound.starts f p s) (λ e. ((run_there H S f p s).goes h q (omega arith) l).0) (cases_eq (ahead f h) 0)

  -- back from a held hour to the start of its run, d hours before it so far
  walk : (h : ℕ) → h < 168 → (fuel d : ℕ) → d + fuel ≡ 168 → ((k : ℕ) → k < 168 → ahead k h < d → (H k ≡ true) × (S k ≡ false))
      → (d < 168 → H ((h + 168 - d) % 168) ≡ true) → (f : ℕ) × (f < 168) × (ahead f h < hours_of H S f)
  walk h p zero d e all y =
      let w = any_elim 168 (λ k. not (goes_on H S k)) sound.begun in
      let lt = w.1 in
      let g = all w.0 w.1 (omega arith) in
      absurd (both_ways (goes_on H S w.0) (not-true _ w.2) (and_from (H w.0) (not (S w.0)) g.0 (not_from_false (S w.0) g.1)))
  walk h p (suc fuel) d e all y =
      let f : ℕ = (h + 168 - d) % 168 in
      ⊎_elim
      (λ s.
      let r = run_there H S f (omega arith) s in
      let m : ℕ = hours_of H S f in
      let k : ℕ = (f + m) % 168 in
      let most = r.most in
      let some = r.some in (
        f,
        omega arith,
        ⊎_elim (λ l. l)
            (λ l. let g = all k (omega arith) (omega arith) in absurd (both_ways (S k) g.1 (r.ends k (omega arith) (omega arith) g.0)))
            (cases_lt (ahead f h) m),
      ))
      (λ s. walk h p fuel (d + 1) (omega arith)
      (λ k q l. ⊎_elim (λ (i : ahead k h ≡ d). let j : k ≡ f = omega arith in (ap H j ∙ y (omega arith), ap S j ∙ s)) (λ i. all k q (omega arith)) (cases_eq (ahead k h) d))
      (λ l. let i : (h + 168 - (d + 1)) % 168 ≡ (f + 167) % 168 = omega arith in ap H i ∙ sound.joined f (omega arith) (y (omega arith)) s))
      (cases_Bool (S f))

  pub held_covered : (h : ℕ) → h < 168 → H h ≡ true → (f : ℕ) × (f < 168) × (ahead f h < hours_of H S f)
  held_covered h p y = walk h p 168 0 refl (λ k q l. absurd (omega arith)) (λ l. let i : (h + 168 - 0) % 168 ≡ h = omega arith in ap H i ∙ y)
