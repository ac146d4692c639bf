-- Holding a free run of n hours raises its link's held count by n.
use Rattle.std.proofs.Common.{◌≡◌, ℕ, suc, ◌+◌, ◌-◌, ◌%◌, ◌<◌, ◌≤◌, Bool, true, false, cond, ◌||◌, eqb, ltb, sym, refl, ap, ◌∙◌, subst, ⊎_elim, arith}
use Rattle.std.proofs.lemmas.Bool.{both_ways, or_cases, or_left, or_right, lt-ltb, le-ltb, eqb-true, cond-true, cond-false}
use Rattle.calendar.specs.Week.{any, total, later, covers}
use Rattle.calendar.specs.Meaning.{Meaning, Sound, proper, meets, is_held, held_count, with_run, put}
use Rattle.calendar.specs.declared.run.Run.{Run}
use Rattle.calendar.proofs.Sums.{bool_same, any_intro, any_elim, any_none, any_cong, total_cong, total_point, total_split, total_rotate, total_ones, total_zero, total_plus}
use Rattle.calendar.proofs.Plants.{inside_parts, proper_parts}
use Rattle.calendar.proofs.Circle.{covers_near, covers_none}
use Rattle.calendar.proofs.Kept.{put_here, put_channel, put_cases, none_there}

below_count : (n : ℕ) → n ≤ 168 → total 168 (λ x. cond (ltb x n) 1 0) ≡ n
below_count n h =
    let p : ℕ → ℕ = λ x. cond (ltb x n) 1 0 in
    let e : total 168 p ≡ total (n + (168 - n)) p = ap (λ k. total k p) (omega arith) in
    let a = total_ones n p (λ k l. cond-true (ltb k n) 1 0 (lt-ltb k n l)) in
    let b = total_zero (168 - n) (λ i. p (n + i)) (λ i _. cond-false (ltb (n + i) n) 1 0 (le-ltb (n + i) n (omega arith))) in
    omega (arith, e, total_split n (168 - n) p, a, b)

-- a run of n hours covers n cells
pub covers_count : (f n : ℕ) → f < 168 → n ≤ 168 → total 168 (λ h. cond (covers f n h) 1 0) ≡ n
covers_count f n b c =
    let o : ℕ = (168 - f) % 168 in
    total_cong 168 (λ h. cond (covers f n h) 1 0) (λ h. cond (ltb ((h + o) % 168) n) 1 0)
    (λ h l. ap (λ t. cond t 1 0) (covers_near f n h (omega arith) l ∙ ap (λ x. ltb x n) (let q : (h + 336 - f) % 168 ≡ (h + o) % 168 = omega arith in q)))
    ∙ total_rotate o (omega arith) (λ x. cond (ltb x n) 1 0) ∙ below_count n c

both_count : (a b : Bool) → (a ≡ true → b ≡ true → ⊥) → cond (a || b) 1 0 ≡ cond a 1 0 + cond b 1 0
both_count true true h = absurd (h refl refl)
both_count true false h = refl
both_count false true h = refl
both_count false false h = refl

module _ (m : Meaning) (s : Sound m) (r : Run) (ok : proper m r ≡ true) (free : meets (is_held m) r ≡ false) where
  pub held_own : (h : ℕ) → is_held (with_run m r r.hours) r.link r.channel h ≡ (is_held m r.link r.channel h || covers r.first r.hours h)
  unfolding is_held with_run
  held_own h =
      let l = r.link in let c = r.channel in let f = r.first in let n = r.hours in
      let P : ℕ → Bool = λ g. covers g (put m.live l c f n l c g) h in
      let Q : ℕ → Bool = λ g. covers g (m.live l c g) h in
      let b = inside_parts m l c f (proper_parts m r ok).0 in
      bool_same (any 168 P) (any 168 Q || covers f n h)
      (λ e. let w = any_elim 168 P e in
      ⊎_elim
      (λ q. or_right (any 168 Q) (covers f n h) (subst (λ x. covers f x h ≡ true) (put_here m.live l c f n) (subst (λ g. covers g (put m.live l c f n l c g) h ≡ true) q.2 w.2)))
      (λ q. or_left (any 168 Q) (covers f n h) (any_intro 168 Q w.0 w.1 (subst (λ x. covers w.0 x h ≡ true) q w.2)))
      (put_cases m.live l c f n l c w.0))
      (λ e. ⊎_elim
      (λ t. let w = any_elim 168 Q t in
      ⊎_elim
      (λ q. absurd (both_ways (covers w.0 (m.live l c w.0) h) (ended w.0 (m.live l c w.0) h (ap (m.live l c) q.2 ∙ none_there m s r ok free)) w.2))
      (λ q. any_intro 168 P w.0 w.1 (subst (λ x. covers w.0 x h ≡ true) (sym q) w.2))
      (put_cases m.live l c f n l c w.0))
      (λ t. any_intro 168 P f b.4 (subst (λ x. covers f x h ≡ true) (sym (put_here m.live l c f n)) t))
      (or_cases (any 168 Q) (covers f n h) e))
    where
      ended : (g k h : ℕ) → k ≡ 0 → covers g k h ≡ false
      ended g k h e = ap (λ x. covers g x h) e ∙ covers_none g h

  held_else : (c h : ℕ) → (c ≡ r.channel → ⊥) → is_held (with_run m r r.hours) r.link c h ≡ is_held m r.link c h
  unfolding is_held with_run
  held_else c h ne = any_cong 168 _ _ (λ f _. ap (λ x. covers f x h) (put_channel m.live r.link r.channel r.first r.hours r.link c f ne))

  shared : (h : ℕ) → is_held m r.link r.channel h ≡ true → covers r.first r.hours h ≡ true → ⊥
  unfolding covers meets
  shared h a b =
      let w = any_elim r.hours (λ j. eqb (later r.first j) h) b in
      both_ways (is_held m r.link r.channel h) (sym (ap (is_held m r.link r.channel) (eqb-true (later r.first w.0) h w.2)) ∙ any_none r.hours (λ j. is_held m r.link r.channel (later r.first j)) free w.0 w.1) a

  pub held_grows : held_count (with_run m r r.hours) r.link ≡ held_count m r.link + r.hours
  unfolding held_count with_run
  held_grows =
      let p = inside_parts m r.link r.channel r.first (proper_parts m r ok).0 in
      let b : ℕ = r.channel - 1 in
      let eb : suc b ≡ r.channel = omega (arith, p.2) in
      let m' = with_run m r r.hours in
      let F : ℕ → ℕ → ℕ = λ c h. cond (is_held m' r.link (suc c) h) 1 0 in
      let G : ℕ → ℕ → ℕ = λ c h. cond (is_held m r.link (suc c) h) 1 0 in
      let one = total_point m.channels (λ c. total 168 (F c)) (λ c. total 168 (G c)) b (omega (arith, p.2, p.3))
      (λ c _ ne. total_cong 168 (F c) (G c) (λ h _. ap (λ t. cond t 1 0) (held_else (suc c) h (λ e. ne (omega (arith, e, eb)))))) in
      let own : total 168 (F b) ≡ total 168 (λ h. G b h + cond (covers r.first r.hours h) 1 0) = total_cong 168 (F b) _ (λ h _. subst (λ c. cond (is_held m' r.link c h) 1 0 ≡ cond (is_held m r.link c h) 1 0 + cond (covers r.first r.hours h) 1 0) (sym eb) (ap (λ t. cond t 1 0) (held_own h) ∙ both_count (is_held m r.link r.channel h) (covers r.first r.hours h) (shared h))) in
      omega (arith, one, own, total_plus 168 (G b) (λ h. cond (covers r.first r.hours h) 1 0), covers_count r.first r.hours p.4 (proper_parts m r ok).2)
