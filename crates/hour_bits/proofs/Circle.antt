-- The hours of a run, by how far they lie ahead of its first.
use Rattle.std.proofs.Common.{◌≡◌, ℕ, ◌+◌, ◌-◌, ◌%◌, ◌<◌, ◌≤◌, min, Bool, true, false, not, ◌&&◌, eqb, ltb, sym, refl, ap, ◌∙◌, arith}
use Rattle.std.proofs.lemmas.Bool.{not-false, not_from_true, and_parts, and_from, eqb-true, eq-eqb}
use Rattle.std.proofs.lemmas.Bool.Decides.{nat_tests}
use Rattle.calendar.specs.Week.{any, later, covers}
use Rattle.calendar.proofs.Circle.{covers_near}
use Rattle.calendar.proofs.Sums.{bool_same, any_intro, any_elim, any_none, any_false, any_cong}

-- how many hours it is from hour a on to hour h
abbrev pub ahead : ℕ → ℕ → ℕ
ahead a h = (h + 336 - a) % 168

pub covers_ahead : (a n h : ℕ) → a < 168 → h < 168 → covers a n h ≡ ltb (ahead a h) n
covers_ahead a n h p q = covers_near a n h (omega arith) q

pub covers_one : (a h : ℕ) → a < 168 → h < 168 → covers a 1 h ≡ eqb h a
covers_one a h p q = covers_ahead a 1 h p q ∙ one a h p q
  where
    one : (a h : ℕ) → a < 168 → h < 168 → ltb (ahead a h) 1 ≡ eqb h a
    one a h p q = grind (arith, nat_tests)

-- a run by its first hour of the week, and no hour of it twice
pub covers_turned : (a n h : ℕ) → a < 336 → h < 168 → covers (a % 168) (min n 168) h ≡ covers a n h
covers_turned a n h p q =
    covers_ahead (a % 168) (min n 168) h (omega arith) q
    ∙ (let e : ahead (a % 168) h ≡ (h + 336 - a) % 168 = omega arith in turned (ahead (a % 168) h) n (omega arith) ∙ ap (λ d. ltb d n) e)
    ∙ sym (covers_near a n h (omega arith) q)
  where
    turned : (d n : ℕ) → d < 168 → ltb d (min n 168) ≡ ltb d n
    turned d n p = grind (arith, nat_tests)

-- the hours of p that a run covers
any_covered : (p : ℕ → Bool) (a n : ℕ) → any 168 (λ h. p h && covers a n h) ≡ any n (λ j. p (later a j))
unfolding covers
any_covered p a n =
    bool_same (any 168 (λ h. p h && covers a n h)) (any n (λ j. p (later a j)))
    (λ e.
    let w = any_elim 168 (λ h. p h && covers a n h) e in
    let b = and_parts (p w.0) (covers a n w.0) w.2 in
    let k = any_elim n (λ j. eqb (later a j) w.0) b.1 in
    any_intro n (λ j. p (later a j)) k.0 k.1 (ap p (eqb-true (later a k.0) w.0 k.2) ∙ b.0))
    (λ e.
    let k = any_elim n (λ j. p (later a j)) e in
    any_intro 168 (λ h. p h && covers a n h) (later a k.0) (omega arith) (and_from (p (later a k.0)) _ k.2 (any_intro n (λ j. eqb (later a j) (later a k.0)) k.0 k.1 (eq-eqb (later a k.0) (later a k.0) refl))))

pub any_in : (p : ℕ → Bool) (a n : ℕ) (r : ℕ → Bool) → ((h : ℕ) → h < 168 → r h ≡ covers a n h) → any 168 (λ h. p h && r h) ≡ any n (λ j. p (later a j))
any_in p a n r e = any_cong 168 _ _ (λ h l. ap (λ b. p h && b) (e h l)) ∙ any_covered p a n

-- no hour of the run has its bit set; every hour of it has
abbrev pub Free : (ℕ → Bool) → ℕ → ℕ → Type 0
Free p a n = (h : ℕ) → h < 168 → ahead a h < n → p h ≡ false

abbrev pub Full : (ℕ → Bool) → ℕ → ℕ → Type 0
Full p a n = (h : ℕ) → h < 168 → ahead a h < n → p h ≡ true

module _ (p : ℕ → Bool) (a n : ℕ) (pa : a < 168) where
  pub free_from : any n (λ j. p (later a j)) ≡ false → Free p a n
  free_from e h q l = let i : h ≡ later a (ahead a h) = omega arith in ap p i ∙ any_none n (λ j. p (later a j)) e (ahead a h) l

  pub any_free : n ≤ 168 → Free p a n → any n (λ j. p (later a j)) ≡ false
  any_free most free = any_false n (λ j. p (later a j)) (λ j l. free (later a j) (omega arith) (omega arith))

pub full_from : (p : ℕ → Bool) (a n : ℕ) → a < 168 → any n (λ j. not (p (later a j))) ≡ false → Full p a n
full_from p a n pa e h q l = not-false (p h) (free_from (λ x. not (p x)) a n pa e h q l)

pub any_full : (p : ℕ → Bool) (a n : ℕ) → a < 168 → n ≤ 168 → Full p a n → any n (λ j. not (p (later a j))) ≡ false
any_full p a n pa most full = any_free (λ x. not (p x)) a n pa most (λ h q l. not_from_true (p h) (full h q l))
