-- The held cells of a link are the hours of its live runs.
use Rattle.std.proofs.Common.{◌≡◌, ℕ, zero, suc, ◌-◌, ◌<◌, ◌≤◌, Bool, true, false, cond, eqb, List, length, get_or, sym, refl, ◌∙◌, ⊎_elim, arith}
use Rattle.std.proofs.lemmas.Bool.{cases_Bool, cases_eq, cases_lt, eqb-true, eq-eqb, ne_eqb, and_left, and_right, cond-true, cond-false}
use Rattle.calendar.specs.Week.{any, total, later, covers}
use Rattle.calendar.specs.Meaning.{Meaning, Sound, is_held, held_count}
use Rattle.calendar.specs.Rows.{Kept, no_run, starts, row_live, tabled}
use Rattle.calendar.specs.declared.run.Run.{Run}
use Rattle.calendar.proofs.Sums.{any_elim, total_cong, total_point, total_zero}
use Rattle.calendar.proofs.Circle.{covers_none}
use Rattle.calendar.proofs.Permuted.{total_swap}
use Rattle.calendar.proofs.Plants.{inside_parts}
use Rattle.calendar.proofs.Grown.{covers_count}
use Rattle.calendar.proofs.Tabled.{live_at}

abbrev num : Bool → ℕ
num b = cond b 1 0

-- a test that at most one number below n passes
any_num : (n : ℕ) (p : ℕ → Bool) → ((j k : ℕ) → j < n → k < n → p j ≡ true → p k ≡ true → j ≡ k) → num (any n p) ≡ total n (λ k. num (p k))
unfolding any total
any_num zero p one = refl
any_num (suc n) p one =
    let rest = any_num n p (λ j k a b. one j k (omega arith) (omega arith)) in
    ⊎_elim
    (λ (t : p n ≡ true).
    let none : total n (λ k. num (p k)) ≡ 0 = total_zero n (λ k. num (p k)) (λ k h. cond-false (p k) 1 0 (⊎_elim (λ (e : p k ≡ true). absurd (let z = one k n (omega arith) (omega arith) e t in omega (arith, z, h))) (λ e. e) (cases_Bool (p k)))) in
    rw t (omega (arith, none)))
    (λ (f : p n ≡ false). rw f (omega (arith, rest)))
    (cases_Bool (p n))

-- a sum with one summand
pub total_one : (n k : ℕ) (f : ℕ → ℕ) → k < n → ((j : ℕ) → j < n → (j ≡ k → ⊥) → f j ≡ 0) → total n f ≡ f k
total_one n k f h none =
    let p = total_point n f (λ _. 0) k h none in
    omega (arith, p, total_zero n (λ _. 0) (λ _ _. refl))

module _ (m : Meaning) (s : Sound m) (l : ℕ) where
  one_run : (c h f g : ℕ) → covers f (m.live l c f) h ≡ true → covers g (m.live l c g) h ≡ true → f ≡ g
  unfolding covers
  one_run c h f g a b =
      let x = any_elim (m.live l c f) (λ j. eqb (later f j) h) a in
      let y = any_elim (m.live l c g) (λ j. eqb (later g j) h) b in
      s.apart l c f g x.0 y.0 x.1 y.1 (eqb-true (later f x.0) h x.2 ∙ sym (eqb-true (later g y.0) h y.2))

  run_cells : (c f : ℕ) → total 168 (λ h. num (covers f (m.live l c f) h)) ≡ m.live l c f
  run_cells c f =
      ⊎_elim
      (λ (q : 0 < m.live l c f). covers_count f (m.live l c f) (inside_parts m l c f (s.live_inside l c f q)).4 (s.live_short l c f))
      (λ (q : m.live l c f ≤ 0).
      let z : m.live l c f ≡ 0 = omega (arith, q) in
      rw z (total_zero 168 (λ h. num (covers f 0 h)) (λ h _. cond-false (covers f 0 h) 1 0 (covers_none f h))))
      (cases_lt 0 (m.live l c f))

  pub held_live : held_count m l ≡ total m.channels (λ c. total 168 (λ f. m.live l (suc c) f))
  unfolding held_count is_held
  held_live = total_cong m.channels _ _ (λ c _.
      total_cong 168 _ (λ h. total 168 (λ f. num (covers f (m.live l (suc c) f) h))) (λ h _. any_num 168 (λ f. covers f (m.live l (suc c) f) h) (λ f g _ _. one_run (suc c) h f g))
      ∙ total_swap 168 168 (λ h f. num (covers f (m.live l (suc c) f) h))
      ∙ total_cong 168 _ _ (λ f _. run_cells (suc c) f))

-- a row's share of the held cells of a link
abbrev pub row_held : Run → ℕ → ℕ
row_held r l = cond (eqb r.link l) r.hours 0

module _ (ls cs : ℕ) (r : Run) where
  abbrev cell_share : ℕ → ℕ → ℕ → ℕ
  cell_share l c f = cond (starts r l c f) r.hours 0

  share_of : (l : ℕ) → (0 < r.hours → (1 ≤ r.channel) × (r.channel ≤ cs) × (r.first < 168)) → total cs (λ c. total 168 (λ f. cell_share l (suc c) f)) ≡ row_held r l
  unfolding starts
  share_of l ok =
      ⊎_elim
      (λ (q : 0 < r.hours). ⊎_elim
      (λ (e : r.link ≡ l).
      let p = ok q in
      let b : ℕ = r.channel - 1 in
      let eb : suc b ≡ r.channel = omega (arith, p.0) in
      total_one cs b (λ c. total 168 (λ f. cell_share l (suc c) f)) (omega (arith, p.0, p.1))
      (λ c _ ne. total_zero 168 (λ f. cell_share l (suc c) f) (λ f _. cond-false (starts r l (suc c) f) r.hours 0 (and_right (eqb l r.link) _ (and_left (eqb (suc c) r.channel) (eqb f r.first) (ne_eqb (suc c) r.channel (λ z. ne (omega (arith, z, eb))))))))
      ∙ total_one 168 r.first (λ f. cell_share l (suc b) f) p.2
      (λ f _ ne. cond-false (starts r l (suc b) f) r.hours 0 (and_right (eqb l r.link) _ (and_right (eqb (suc b) r.channel) (eqb f r.first) (ne_eqb f r.first ne))))
      ∙ cond-true (starts r l (suc b) r.first) r.hours 0 (rw (eq-eqb l r.link (sym e), eq-eqb (suc b) r.channel eb, eq-eqb r.first r.first refl) refl)
      ∙ sym (cond-true (eqb r.link l) r.hours 0 (eq-eqb r.link l e)))
      (λ ne. none (λ c f. cond-false (starts r l c f) r.hours 0 (and_left (eqb l r.link) _ (ne_eqb l r.link (λ z. ne (sym z)))))
      ∙ sym (cond-false (eqb r.link l) r.hours 0 (ne_eqb r.link l ne)))
      (cases_eq r.link l))
      (λ (q : r.hours ≤ 0).
      let z : r.hours ≡ 0 = omega (arith, q) in
      none (λ c f. nothing (starts r l c f) r.hours z) ∙ sym (nothing (eqb r.link l) r.hours z))
      (cases_lt 0 r.hours)
    where
      nothing : (b : Bool) (n : ℕ) → n ≡ 0 → cond b n 0 ≡ 0
      nothing true n e = e
      nothing false n e = refl

      none : ((c f : ℕ) → cell_share l c f ≡ 0) → total cs (λ c. total 168 (λ f. cell_share l (suc c) f)) ≡ 0
      none h = total_zero cs _ (λ c _. total_zero 168 _ (λ f _. h (suc c) f))

-- the held cells of a link, row by row
pub rows_held : (rows : List Run) (ls cs : ℕ) → Kept rows ls cs → (l : ℕ) → held_count (tabled rows ls cs) l ≡ total (length rows) (λ i. row_held (get_or rows i no_run) l)
unfolding row_live
rows_held rows ls cs k l =
    let S : ℕ → ℕ → ℕ → ℕ = λ i c f. cond (starts (get_or rows i no_run) l (suc c) f) (get_or rows i no_run).hours 0 in
    held_live (tabled rows ls cs) k.sound l
    ∙ total_cong cs _ _ (λ c _. total_swap 168 (length rows) (λ f i. S i c f))
    ∙ total_swap cs (length rows) (λ c i. total 168 (λ f. S i c f))
    ∙ total_cong (length rows) _ _ (λ i h. share_of ls cs (get_or rows i no_run) l (λ q.
    let r = get_or rows i no_run in
    let p = inside_parts (tabled rows ls cs) r.link r.channel r.first (k.sound.live_inside r.link r.channel r.first (omega (arith, live_at rows ls cs k i h q, q))) in
    (p.2, p.3, p.4)))
