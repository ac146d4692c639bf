-- The hours of a run by arithmetic on the circle of the week.
use Rattle.std.proofs.Common.{◌≡◌, ℕ, ◌+◌, ◌-◌, ◌%◌, ◌<◌, ◌≤◌, min, false, cond, ◌&&◌, eqb, ltb, sym, ap, ◌∙◌, ⊎_elim, arith}
use Rattle.std.proofs.lemmas.Bool.{cases_eq, cases_lt, lt-ltb, le-ltb, ltb-true, eqb-true, eq-eqb, ne_eqb, cond-true, cond-false}
use Rattle.calendar.specs.Week.{any, least, later, covers, until}
use Rattle.calendar.proofs.Sums.{bool_same, any_intro, any_elim, any_empty, any_false}
use Rattle.calendar.proofs.Leasts.{least_is, least_none, least_short}

-- an hour of the week is covered where it comes soon enough after the first
pub covers_near : (f n h : ℕ) → f ≤ 336 → h < 168 → covers f n h ≡ ltb ((h + 336 - f) % 168) n
unfolding covers
covers_near f n h b w =
    bool_same (any n (λ j. eqb (later f j) h)) (ltb ((h + 336 - f) % 168) n)
    (λ e. let k = any_elim n (λ j. eqb (later f j) h) e in let q : later f k.0 ≡ h = eqb-true (later f k.0) h k.2 in lt-ltb ((h + 336 - f) % 168) n (omega (arith, k.1)))
    (λ e. let q = ltb-true ((h + 336 - f) % 168) n e in any_intro n (λ j. eqb (later f j) h) ((h + 336 - f) % 168) q (eq-eqb (later f ((h + 336 - f) % 168)) h (omega arith)))

pub covers_late : (f n h : ℕ) → 168 ≤ h → covers f n h ≡ false
unfolding covers
covers_late f n h b = any_false n (λ j. eqb (later f j) h) (λ j _. ne_eqb (later f j) h (λ e. omega arith))

-- d is the distance of h from f
pub covers_by : (f n h d : ℕ) → f ≤ 336 → d ≡ (h + 336 - f) % 168 → (ltb h 168 && ltb d n) ≡ covers f n h
covers_by f n h d b e =
    ⊎_elim
    (λ (q : h < 168). ap (λ x. x && ltb d n) (lt-ltb h 168 q) ∙ ap (λ x. ltb x n) e ∙ sym (covers_near f n h b q))
    (λ (q : 168 ≤ h). ap (λ x. x && ltb d n) (le-ltb h 168 q) ∙ sym (covers_late f n h q))
    (cases_lt h 168)

-- a run of no hours covers none
pub covers_none : (f h : ℕ) → covers f 0 h ≡ false
unfolding covers
covers_none f h = any_empty (λ j. eqb (later f j) h)

-- it begins at once where its first hour is covered, and else where the run begins
pub until_none : (f h : ℕ) → until f 0 h ≡ 168
unfolding until
until_none f h = least_none 168 (λ j. covers f 0 (later h j)) (λ j _. covers_none f (later h j))

pub until_now : (f n h : ℕ) → f ≤ 336 → h ≤ 336 → (h + 336 - f) % 168 < n → until f n h ≡ 0
unfolding until
until_now f n h a b q =
    least_is 168 (λ j. covers f n (later h j)) 0 (record {
      most = omega arith;
      before = λ j z. absurd (omega (arith, z));
      at = λ _. covers_near f n (later h 0) a (omega arith) ∙ lt-ltb ((later h 0 + 336 - f) % 168) n (omega arith);
    })

pub until_first : (f n h : ℕ) → f ≤ 336 → h ≤ 336 → 0 < n → n ≤ (h + 336 - f) % 168 → until f n h ≡ (f + 336 - h) % 168
unfolding until
until_first f n h a b p q =
    least_is 168 (λ j. covers f n (later h j)) ((f + 336 - h) % 168) (record {
      most = omega arith;
      before = λ j z. covers_near f n (later h j) a (omega arith) ∙ le-ltb ((later h j + 336 - f) % 168) n (omega arith);
      at = λ _. covers_near f n (later h ((f + 336 - h) % 168)) a (omega arith) ∙ lt-ltb ((later h ((f + 336 - h) % 168) + 336 - f) % 168) n (omega arith);
    })

-- since is the distance of h from f, and to that of f from h
pub until_by : (f n h since to : ℕ) → f ≤ 336 → h ≤ 336 → since ≡ (h + 336 - f) % 168 → to ≡ (f + 336 - h) % 168 → cond (eqb n 0) 168 (cond (ltb since n) 0 to) ≡ until f n h
until_by f n h since to a b p q =
    ⊎_elim
    (λ (z : n ≡ 0). cond-true (eqb n 0) _ _ (eq-eqb n 0 z) ∙ sym (ap (λ x. until f x h) z ∙ until_none f h))
    (λ (z : n ≡ 0 → ⊥). cond-false (eqb n 0) _ _ (ne_eqb n 0 z) ∙ ⊎_elim
    (λ (y : since < n). cond-true (ltb since n) _ _ (lt-ltb since n y) ∙ sym (until_now f n h a b (omega (arith, y, p))))
    (λ (y : n ≤ since). cond-false (ltb since n) _ _ (le-ltb since n y) ∙ q ∙ sym (until_first f n h a b (omega (arith, z)) (omega (arith, y, p))))
    (cases_lt since n))
    (cases_eq n 0)

-- the hours of a run that come before one that another run covers
pub until_within : (n f k h : ℕ) → n ≤ 168 → least n (λ j. covers f k (later h j)) ≡ min n (until f k h)
unfolding until
until_within n f k h b = least_short n 168 (λ j. covers f k (later h j)) b
