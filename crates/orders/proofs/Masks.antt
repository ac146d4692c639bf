-- Putting in and taking out the runs of one hour on many channels at once.
use Rattle.std.proofs.Common.{◌≡◌, ℕ, ◌+◌, ◌<◌, Bool, true, false, cond, ◌&&◌, ◌||◌, eqb, sym, refl, ap, ◌∙◌, subst, ⊎_elim, arith}
use mathlib.Core.Path.{fun_ext}
use Rattle.std.proofs.lemmas.Bool.{cases_Bool, cases_eq, cases_lt, both_ways, and_parts, and_from, and_left, and_right, or_cases, or_left, or_right, eqb-true, eq-eqb, ne_eqb, cond-true, cond-false}
use Rattle.calendar.specs.Week.{any, later, covers}
use Rattle.calendar.specs.Meaning.{Meaning, Sound, is_held}
use Rattle.calendar.proofs.Sums.{bool_same, any_intro, any_elim, any_false, any_cong, any_empty}
use Rattle.orders.specs.Standing.{num}

-- the live runs g, with n hours for the run that starts in hour f on each channel that k takes
unfoldable pub mask : (ℕ → ℕ → ℕ → ℕ) → (ℕ → ℕ → Bool) → ℕ → ℕ → ℕ → ℕ → ℕ → ℕ
mask g k f n l c x = cond (k l c && eqb x f) n (g l c x)

unfoldable pub with_live : Meaning → (ℕ → ℕ → ℕ → ℕ) → Meaning
with_live m g = record { links = m.links; channels = m.channels; limit = m.limit; closed = m.closed; live = g }

abbrev pub with_mask : Meaning → (ℕ → ℕ → Bool) → ℕ → ℕ → Meaning
with_mask m k f n = with_live m (mask m.live k f n)

pub both_count : (a b : Bool) → (a ≡ true → b ≡ true → ⊥) → num (a || b) ≡ num a + num b
both_count true true h = absurd (h refl refl)
both_count true false h = refl
both_count false true h = refl
both_count false false h = refl

pub no_hours : (g n h : ℕ) → n ≡ 0 → covers g n h ≡ false
unfolding covers
no_hours g n h e = rw e (any_empty (λ j. eqb (later g j) h))

-- a run covers its first hour
pub covers_first : (f n : ℕ) → f < 168 → 0 < n → covers f n f ≡ true
unfolding covers
covers_first f n a b = any_intro n (λ j. eqb (later f j) f) 0 b (eq-eqb (later f 0) f (omega arith))

pub live_held : (m : Meaning) (l c f h : ℕ) → f < 168 → covers f (m.live l c f) h ≡ true → is_held m l c h ≡ true
unfolding is_held
live_held m l c f h a b = any_intro 168 (λ g. covers g (m.live l c g) h) f a b

-- none starts at a cell that is not held
pub not_held : (m : Meaning) (l c f : ℕ) → f < 168 → is_held m l c f ≡ false → m.live l c f ≡ 0
not_held m l c f a e =
    ⊎_elim (λ q. absurd (both_ways (is_held m l c f) e (live_held m l c f f a (covers_first f (m.live l c f) a q)))) (λ q. omega (arith, q)) (cases_lt 0 (m.live l c f))

module _ (g : ℕ → ℕ → ℕ → ℕ) (k : ℕ → ℕ → Bool) (f n l c : ℕ) where
  pub mask_here : k l c ≡ true → mask g k f n l c f ≡ n
  unfolding mask
  mask_here e = cond-true _ n (g l c f) (and_from (k l c) (eqb f f) e (eq-eqb f f refl))

  pub mask_off : k l c ≡ false → (x : ℕ) → mask g k f n l c x ≡ g l c x
  unfolding mask
  mask_off e x = cond-false _ n (g l c x) (and_left (k l c) (eqb x f) e)

  pub mask_else : (x : ℕ) → (x ≡ f → ⊥) → mask g k f n l c x ≡ g l c x
  unfolding mask
  mask_else x ne = cond-false _ n (g l c x) (and_right (k l c) (eqb x f) (ne_eqb x f ne))

-- put back what was taken out
pub mask_back : (m : Meaning) (k : ℕ → ℕ → Bool) (f n : ℕ) → ((l c : ℕ) → k l c ≡ true → m.live l c f ≡ n) → with_mask (with_mask m k f 0) k f n ≡ m
unfolding with_live
mask_back m k f n a = ap (with_live m) (fun_ext (λ l. fun_ext (λ c. fun_ext (λ x. at l c x)))) where
  at : (l c x : ℕ) → mask (mask m.live k f 0) k f n l c x ≡ m.live l c x
  at l c x =
      ⊎_elim
      (λ (q : k l c ≡ true). ⊎_elim
      (λ (p : x ≡ f). rw p (mask_here (mask m.live k f 0) k f n l c q ∙ sym (a l c q)))
      (λ p. mask_else (mask m.live k f 0) k f n l c x p ∙ mask_else m.live k f 0 l c x p)
      (cases_eq x f))
      (λ q. mask_off (mask m.live k f 0) k f n l c q x ∙ mask_off m.live k f 0 l c q x)
      (cases_Bool (k l c))

-- a channel that k does not take is as it was
pub held_off : (m : Meaning) (k : ℕ → ℕ → Bool) (f n l c h : ℕ) → k l c ≡ false → is_held (with_mask m k f n) l c h ≡ is_held m l c h
unfolding is_held with_live
held_off m k f n l c h e = any_cong 168 _ _ (λ x _. ap (λ y. covers x y h) (mask_off m.live k f n l c e x))

module _ (m : Meaning) (k : ℕ → ℕ → Bool) (f n : ℕ) (lf : f < 168) (ln : 0 < n) (free : (l c j : ℕ) → k l c ≡ true → j < n → is_held m l c (later f j) ≡ false) where
  pub none_there : (l c : ℕ) → k l c ≡ true → m.live l c f ≡ 0
  none_there l c e = not_held m l c f lf (let z : later f 0 ≡ f = omega arith in sym (ap (is_held m l c) z) ∙ free l c 0 e ln)

  pub live_grows : (l c x : ℕ) → mask m.live k f n l c x ≡ m.live l c x + cond (k l c && eqb x f) n 0
  unfolding mask
  live_grows l c x = ⊎_elim
      (λ (t : (k l c && eqb x f) ≡ true). let p = and_parts (k l c) (eqb x f) t in
      let z : m.live l c x ≡ 0 = ap (m.live l c) (eqb-true x f p.1) ∙ none_there l c p.0 in
      rw (t, z) (omega arith))
      (λ (t : (k l c && eqb x f) ≡ false). rw t (omega arith))
      (cases_Bool (k l c && eqb x f))

  held_on : (l c h : ℕ) → k l c ≡ true → is_held (with_mask m k f n) l c h ≡ (is_held m l c h || covers f n h)
  unfolding is_held with_live
  held_on l c h e =
      let P : ℕ → Bool = λ g. covers g (mask m.live k f n l c g) h in
      let Q : ℕ → Bool = λ g. covers g (m.live l c g) h in
      bool_same (any 168 P) (any 168 Q || covers f n h)
      (λ t. let w = any_elim 168 P t in
      ⊎_elim
      (λ (q : w.0 ≡ f). or_right (any 168 Q) (covers f n h) (subst (λ x. covers f x h ≡ true) (mask_here m.live k f n l c e) (subst (λ x. P x ≡ true) q w.2)))
      (λ q. or_left (any 168 Q) (covers f n h) (any_intro 168 Q w.0 w.1 (subst (λ x. covers w.0 x h ≡ true) (mask_else m.live k f n l c w.0 q) w.2)))
      (cases_eq w.0 f))
      (λ t. ⊎_elim
      (λ u. let w = any_elim 168 Q u in
      ⊎_elim
      (λ (q : w.0 ≡ f). absurd (both_ways (Q w.0) (no_hours w.0 (m.live l c w.0) h (ap (m.live l c) q ∙ none_there l c e)) w.2))
      (λ q. any_intro 168 P w.0 w.1 (subst (λ x. covers w.0 x h ≡ true) (sym (mask_else m.live k f n l c w.0 q)) w.2))
      (cases_eq w.0 f))
      (λ u. any_intro 168 P f lf (subst (λ x. covers f x h ≡ true) (sym (mask_here m.live k f n l c e)) u))
      (or_cases (any 168 Q) (covers f n h) t))

  shared : (l c h : ℕ) → k l c ≡ true → is_held m l c h ≡ true → covers f n h ≡ true → ⊥
  unfolding covers
  shared l c h e a b =
      let w = any_elim n (λ j. eqb (later f j) h) b in
      both_ways (is_held m l c h) (sym (ap (is_held m l c) (eqb-true (later f w.0) h w.2)) ∙ free l c w.0 e w.1) a

  pub held_grows : (l c h : ℕ) → num (is_held (with_mask m k f n) l c h) ≡ num (is_held m l c h) + num (k l c && covers f n h)
  held_grows l c h = ⊎_elim
      (λ (e : k l c ≡ true). rw e (ap num (held_on l c h e) ∙ both_count (is_held m l c h) (covers f n h) (shared l c h e)))
      (λ (e : k l c ≡ false). rw e (let z = ap num (held_off m k f n l c h e) in omega arith))
      (cases_Bool (k l c))

-- what is taken out of a sound plant leaves its cells free
module _ (m : Meaning) (s : Sound m) (k : ℕ → ℕ → Bool) (f n : ℕ) (lf : f < 168) (alive : (l c : ℕ) → k l c ≡ true → m.live l c f ≡ n) where
  pub left_free : (l c j : ℕ) → k l c ≡ true → j < n → is_held (with_mask m k f 0) l c (later f j) ≡ false
  unfolding is_held with_live covers
  left_free l c j e b = any_false 168 (λ g. covers g (mask m.live k f 0 l c g) (later f j)) (λ g _. ⊎_elim
      (λ (q : g ≡ f). rw q (no_hours f (mask m.live k f 0 l c f) (later f j) (mask_here m.live k f 0 l c e)))
      (λ q. ap (λ x. covers g x (later f j)) (mask_else m.live k f 0 l c g q) ∙ any_false (m.live l c g) (λ i. eqb (later g i) (later f j)) (λ i li. ne_eqb (later g i) (later f j) (λ z. q (s.apart l c g f i j li (rw (alive l c e) b) z))))
      (cases_eq g f))

  pub held_shrinks : 0 < n → (l c h : ℕ) → num (is_held m l c h) ≡ num (is_held (with_mask m k f 0) l c h) + num (k l c && covers f n h)
  held_shrinks ln l c h = ap (λ x. num (is_held x l c h)) (sym (mask_back m k f n alive)) ∙ held_grows (with_mask m k f 0) k f n lf ln left_free l c h

  pub live_shrinks : (l c x : ℕ) → m.live l c x ≡ mask m.live k f 0 l c x + cond (k l c && eqb x f) n 0
  unfolding mask
  live_shrinks l c x = ⊎_elim
      (λ (t : (k l c && eqb x f) ≡ true). let p = and_parts (k l c) (eqb x f) t in
      let z : m.live l c x ≡ n = ap (m.live l c) (eqb-true x f p.1) ∙ alive l c p.0 in
      rw t (omega (arith, z)))
      (λ (t : (k l c && eqb x f) ≡ false). rw t (omega arith))
      (cases_Bool (k l c && eqb x f))
