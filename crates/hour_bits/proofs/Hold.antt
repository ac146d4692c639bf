-- A run put into the free hours of a sound row is added to its runs, and nothing else changes.
use Rattle.std.proofs.Common.{◌≡◌, ℕ, ◌+◌, ◌%◌, ◌<◌, ◌≤◌, Bool, true, false, not, ◌||◌, sym, refl, ap, ◌∙◌, ⊎_elim, arith}
use Rattle.std.proofs.lemmas.Bool.{both_ways, cases_lt, cases_eq, cases_Bool, lt-ltb, le-ltb, eq-eqb, ne_eqb, or_left, or_right, and_right, not_from_true, not_from_false}
use Rattle.calendar.proofs.Sums.{any_intro}
use Rattle.hour_bits.specs.Bits.{goes_on, hours_of, SoundRow, more_hours}
use Rattle.hour_bits.proofs.Circle.{ahead, covers_ahead, covers_one, Free}
use Rattle.hour_bits.proofs.Runs.{RunAt, run_there, hours_are, hours_none}

or_false : (x y : Bool) → y ≡ false → (x || y) ≡ x
or_false true y e = refl
or_false false y e = e

module _ (H S H' S' : ℕ → Bool) (a n : ℕ) (pa : a < 168) (pn : 1 ≤ n) (qn : n ≤ 168) (sound : SoundRow H S) (free : Free H a n)
    (held-is : (h : ℕ) → h < 168 → H' h ≡ more_hours H a n h) (start_is : (h : ℕ) → h < 168 → S' h ≡ more_hours S a 1 h) where
  in_run : (h : ℕ) → h < 168 → ahead a h < n → H' h ≡ true
  in_run h p l = held-is h p ∙ or_right (H h) _ (covers_ahead a n h pa p ∙ lt-ltb (ahead a h) n l)

  out_run : (h : ℕ) → h < 168 → n ≤ ahead a h → H' h ≡ H h
  out_run h p l = held-is h p ∙ or_false (H h) _ (covers_ahead a n h pa p ∙ le-ltb (ahead a h) n l)

  still : (h : ℕ) → h < 168 → H h ≡ true → H' h ≡ true
  still h p e = held-is h p ∙ or_left (H h) _ e

  at_first : S' a ≡ true
  at_first = start_is a pa ∙ or_right (S a) _ (covers_one a a pa pa ∙ eq-eqb a a refl)

  elsewhere : (h : ℕ) → h < 168 → (h ≡ a → ⊥) → S' h ≡ S h
  elsewhere h p ne = start_is h p ∙ or_false (S h) _ (covers_one a h pa p ∙ ne_eqb h a ne)

  no_start : (h : ℕ) → h < 168 → ahead a h < n → S h ≡ false
  no_start h p l = ⊎_elim (λ y. absurd (both_ways (H h) (free h p l) (sound.starts h p y))) (λ y. y) (cases_Bool (S h))

  outside : (h : ℕ) → h < 168 → H h ≡ true → n ≤ ahead a h
  outside h p y = ⊎_elim (λ l. absurd (both_ways (H h) (free h p l) y)) (λ l. l) (cases_lt (ahead a h) n)

  put_new : RunAt H' S' a n
  put_new = record {
    begins = at_first;
    some = pn;
    most = qn;
    goes = λ h p q r. (in_run h p r, elsewhere h p (λ e. omega arith) ∙ no_start h p r);
    ends = λ h p e y.
        elsewhere h p (λ i. omega arith)
        ∙ ⊎_elim (λ z. z)
        (λ z. let g = sound.joined h p (sym (out_run h p (omega arith)) ∙ y) z in
        absurd (both_ways (H ((h + 167) % 168)) (free ((h + 167) % 168) (omega arith) (omega arith)) g))
        (cases_Bool (S h));
  }

  put_old : (f m : ℕ) → f < 168 → RunAt H S f m → RunAt H' S' f m
  put_old f m q r =
      let here : H f ≡ true = sound.starts f q r.begins in
      let away : (h : ℕ) → h < 168 → n ≤ ahead a h → S' h ≡ S h = λ h p l. elsewhere h p (λ e. omega arith) in
      let last : (h : ℕ) → h < 168 → ahead f h < m → H h ≡ true = λ h p l.
      ⊎_elim (λ (e : ahead f h ≡ 0). let i : h ≡ f = omega arith in ap H i ∙ here) (λ e. (r.goes h p (omega arith) l).0) (cases_eq (ahead f h) 0) in
      record {
        begins = away f q (outside f q here) ∙ r.begins;
        some = r.some;
        most = r.most;
        goes = λ h p u v. let g = r.goes h p u v in (still h p g.0, away h p (outside h p g.0) ∙ g.1);
        ends = λ h p e y.
            let some = r.some in
            let most = r.most in
            ⊎_elim
            (λ l. ⊎_elim
            (λ i. ap S' i ∙ at_first)
            (λ i. absurd (both_ways (H ((h + 167) % 168)) (free ((h + 167) % 168) (omega arith) (omega arith)) (last ((h + 167) % 168) (omega arith) (omega arith))))
            (cases_eq h a))
            (λ l. away h p l ∙ r.ends h p e (sym (out_run h p l) ∙ y))
            (cases_lt (ahead a h) n);
      }

  pub put_sound : SoundRow H' S'
  put_sound = record {
    starts = λ h p y.
        ⊎_elim (λ i. in_run h p (omega arith)) (λ i. still h p (sound.starts h p (sym (elsewhere h p i) ∙ y))) (cases_eq h a);
    joined = λ h p y z.
        ⊎_elim
        (λ l. ⊎_elim
        (λ i. absurd (both_ways (S' h) z (ap S' i ∙ at_first)))
        (λ i. in_run ((h + 167) % 168) (omega arith) (omega arith))
        (cases_eq h a))
        (λ l. still ((h + 167) % 168) (omega arith) (sound.joined h p (sym (out_run h p l) ∙ y) (sym (elsewhere h p (λ e. omega arith)) ∙ z)))
        (cases_lt (ahead a h) n);
    begun = any_intro 168 (λ h. not (goes_on H' S' h)) a pa (not_from_false (goes_on H' S' a) (and_right (H' a) (not (S' a)) (not_from_true (S' a) at_first)));
  }

  -- the runs after: the new one at its hour, and at every other hour as before
  pub put_here : hours_of H' S' a ≡ n
  put_here = hours_are H' S' pa put_new

  pub put_there : (f : ℕ) → f < 168 → (f ≡ a → ⊥) → hours_of H' S' f ≡ hours_of H S f
  put_there f q ne =
      ⊎_elim
      (λ y. hours_are H' S' q (put_old f _ q (run_there H S f q y)))
      (λ y. hours_none H' S' f (elsewhere f q ne ∙ y) ∙ sym (hours_none H S f y))
      (cases_Bool (S f))
