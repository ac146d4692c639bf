-- What sound tables of bits mean is a sound plant; its held cells are the held bits, its live runs the start bits.
use Rattle.std.proofs.Common.{◌≡◌, ℕ, zero, suc, ◌*◌, ◌<◌, ◌≤◌, min, Bool, true, false, cond, ◌&&◌, sym, ap, ◌∙◌, ⊎_elim, mul_assoc, suc-mul, arith}
use Rattle.std.proofs.lemmas.Bool.{both_ways, cases_lt, cases_eq, cases_Bool, lt-ltb, ltb-true, and_from, and_parts, and_left, not-false, cond-true, cond-false}
use Rattle.calendar.specs.Week.{any, total, later, covers}
use Rattle.calendar.specs.Meaning.{Meaning, Sound, within, is_held, live_count, held_count}
use Rattle.calendar.proofs.Circle.{covers_late}
use Rattle.calendar.proofs.Sums.{bool_same, any_intro, any_elim, total_cong, total_zero}
use Rattle.hour_bits.specs.Bits.{hours_of, bit_count}
use Rattle.hour_bits.specs.Tables.{Table, mapped}
use Rattle.hour_bits.proofs.Circle.{ahead, covers_ahead}
use Rattle.hour_bits.proofs.Runs.{run_there, hours_none, hours_some, apart}
use Rattle.hour_bits.proofs.Release.{covered_held, held_covered}
use Rattle.hour_bits.proofs.Tables.{Within, within_parts, within_from, Sounds, live_of, live_hours}

total_bound : (n b : ℕ) (f : ℕ → ℕ) → ((k : ℕ) → f k ≤ b) → total n f ≤ n * b
unfolding total
total_bound zero b f h = omega arith
total_bound (suc n) b f h = omega (arith, suc-mul n b, h n, total_bound n b f h)

-- at most one run starts at each cell
pub count_bound : (m : Meaning) → live_count m ≤ m.links * m.channels * 168
unfolding live_count
count_bound m =
    let e = total_bound m.links (m.channels * 168) (λ l. total m.channels (λ c. total 168 (λ f. min 1 (m.live (suc l) (suc c) f))))
    (λ l. total_bound m.channels 168 (λ c. total 168 (λ f. min 1 (m.live (suc l) (suc c) f))) (λ c. let t = total_bound 168 1 (λ f. min 1 (m.live (suc l) (suc c) f)) (λ f. omega arith) in omega arith)) in
    omega (arith, mul_assoc m.links m.channels 168, e)

module _ (L C : ℕ) (held start : Table) (all : Sounds L C held start) where
  -- a live run is within the sizes, has a start bit, and its hours are those read off the bits
  started : (l c f : ℕ) → 0 < live_of L C held start l c f → Within L C l c × (f < 168) × (start l c f ≡ true) × (live_of L C held start l c f ≡ hours_of (held l c) (start l c) f)
  started l c f p =
      ⊎_elim
      (λ (t : within L C l c f ≡ true).
      let w = within_parts L C l c f t in
      let e = live_hours L C held start l c f w.0 w.1 in
      (w.0, w.1, hours_some (held l c) (start l c) f (omega arith), e))
      (λ (t : within L C l c f ≡ false). let e = cond-false (within L C l c f) (hours_of (held l c) (start l c) f) 0 t in absurd (omega arith))
      (cases_Bool (within L C l c f))

  live_most : (l c f : ℕ) → live_of L C held start l c f ≤ 168
  live_most l c f =
      ⊎_elim
      (λ (p : 0 < live_of L C held start l c f). let s = started l c f p in let e = s.3 in let r = (run_there (held l c) (start l c) f s.1 s.2).most in omega arith)
      (λ p. omega arith)
      (cases_lt 0 (live_of L C held start l c f))

  live_apart : (l c f g i j : ℕ) → i < live_of L C held start l c f → j < live_of L C held start l c g → later f i ≡ later g j → f ≡ g
  live_apart l c f g i j p q e =
      let s = started l c f (omega arith) in
      let t = started l c g (omega arith) in
      let b = s.1 in
      let d = t.1 in
      let x = s.3 in
      let y = t.3 in
      let u = live_most l c f in
      let v = live_most l c g in
      ⊎_elim (λ (z : f ≡ g). z)
      (λ z. absurd (apart s.1 t.1 (let k : later f i < 168 = omega arith in k) (run_there (held l c) (start l c) f s.1 s.2) (run_there (held l c) (start l c) g t.1 t.2) (λ o. z (sym o)) (omega arith) (omega arith)))
      (cases_eq f g)

  pub mapped_sound : 1 ≤ L → L ≤ 40 → 1 ≤ C → C ≤ 16 → Sound (mapped L C held start)
  unfolding mapped
  mapped_sound la lb ca cb = record {
    some_links = la;
    few_links = lb;
    some_channels = ca;
    few_channels = cb;
    open_inside = λ l c h e. not-false (within L C l c h) e;
    live_inside = λ l c f p. let s = started l c f p in within_from L C l c f s.0 s.1;
    live_short = live_most;
    apart = live_apart;
    few = count_bound (mapped L C held start);
  }

  covered : (l c h : ℕ) → h < 168 → (f : ℕ) → covers f (live_of L C held start l c f) h ≡ true → f < 168 → Within L C l c × (held l c h ≡ true)
  covered l c h p f e q =
      let lt = ltb-true (ahead f h) (live_of L C held start l c f) (sym (covers_ahead f (live_of L C held start l c f) h q p) ∙ e) in
      let s = started l c f (omega arith) in
      let i = s.3 in
      (s.0, covered_held (held l c) (start l c) (all l c s.0) f h q p (omega arith))

  -- a cell is held where its bit is set
  pub mapped_held : (l c h : ℕ) → is_held (mapped L C held start) l c h ≡ (within L C l c h && held l c h)
  unfolding is_held mapped
  mapped_held l c h =
      let P : ℕ → Bool = λ f. covers f (live_of L C held start l c f) h in
      bool_same (any 168 P) (within L C l c h && held l c h)
      (λ e.
      let k = any_elim 168 P e in
      let p : h < 168 = ⊎_elim (λ x. x) (λ x. absurd (both_ways (P k.0) (covers_late k.0 (live_of L C held start l c k.0) h x) k.2)) (cases_lt h 168) in
      let s = covered l c h p k.0 k.2 k.1 in
      and_from (within L C l c h) (held l c h) (within_from L C l c h s.0 p) s.1)
      (λ e.
      let b = and_parts (within L C l c h) (held l c h) e in
      let w = within_parts L C l c h b.0 in
      let k = held_covered (held l c) (start l c) (all l c w.0) h w.1 b.1 in
      let lt = k.2 in
      let i = live_hours L C held start l c k.0 w.0 k.1 in
      any_intro 168 P k.0 k.1 (covers_ahead k.0 (live_of L C held start l c k.0) h k.1 w.1 ∙ lt-ltb (ahead k.0 h) (live_of L C held start l c k.0) (omega arith)))

  start_one : (l c f : ℕ) → Within L C l c → f < 168 → min 1 (live_of L C held start l c f) ≡ cond (start l c f) 1 0
  start_one l c f w p =
      let e = live_hours L C held start l c f w p in
      ⊎_elim
      (λ (s : start l c f ≡ true). let m = (run_there (held l c) (start l c) f p s).some in let u : min 1 (live_of L C held start l c f) ≡ 1 = omega arith in u ∙ sym (cond-true (start l c f) 1 0 s))
      (λ (s : start l c f ≡ false). let z = hours_none (held l c) (start l c) f s in let u : min 1 (live_of L C held start l c f) ≡ 0 = omega arith in u ∙ sym (cond-false (start l c f) 1 0 s))
      (cases_Bool (start l c f))

  -- the live runs are the start bits, counted
  pub mapped_live : live_count (mapped L C held start) ≡ total L (λ l. total C (λ c. bit_count (start (suc l) (suc c))))
  unfolding live_count mapped bit_count
  mapped_live = total_cong L _ _ (λ l p. total_cong C _ _ (λ c q. total_cong 168 _ _ (λ f r. start_one (suc l) (suc c) f (omega arith, omega arith, omega arith, omega arith) r)))

  held_one : (l c h : ℕ) → Within L C l c → h < 168 → is_held (mapped L C held start) l c h ≡ held l c h
  held_one l c h w p = mapped_held l c h ∙ ap (λ b. b && held l c h) (within_from L C l c h w p)

  -- the held cells of a link are its held bits, counted
  pub mapped_count : (l : ℕ) → 1 ≤ l → l ≤ L → held_count (mapped L C held start) l ≡ total C (λ c. bit_count (held l (suc c)))
  unfolding held_count mapped bit_count
  mapped_count l p q = total_cong C _ _ (λ c r. total_cong 168 _ _ (λ h s. ap (λ b. cond b 1 0) (held_one l (suc c) h (p, q, omega arith, omega arith) s)))

  pub mapped_outside : (l : ℕ) → (Within L C l 1 → ⊥) → 1 ≤ C → held_count (mapped L C held start) l ≡ 0
  unfolding held_count
  mapped_outside l out some =
      total_zero _ _ (λ c _. total_zero 168 _ (λ h _. ap (λ b. cond b 1 0) (mapped_held l (suc c) h
      ∙ and_left (within L C l (suc c) h) _ (⊎_elim (λ (t : within L C l (suc c) h ≡ true). let w = (within_parts L C l (suc c) h t).0 in absurd (out (w.0, w.1, omega arith, some))) (λ f. f) (cases_Bool (within L C l (suc c) h))))))
