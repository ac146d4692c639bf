-- A layer holds as many cells of a link as the plant below.
use Rattle.std.proofs.Common.{◌≡◌, ℕ, suc, ◌+◌, ◌-◌, ◌<◌, true, false, cond, List, get_or, sym, refl, ap, ◌∙◌, ⊎_elim, arith}
use Rattle.std.proofs.lemmas.Bool.{cases_eq}
use Rattle.calendar.specs.Week.{total, later, covers}
use Rattle.calendar.specs.Meaning.{Meaning, Sound, is_held, held_count}
use Rattle.calendar.specs.Layers.{clocked, windowed, carded, card, named, Order}
use Rattle.calendar.specs.declared.run.Window.{Window}
use Rattle.calendar.proofs.Sums.{any_empty, any_false, total_cong, total_rotate, total_split, total_zero}
use Rattle.calendar.proofs.Permuted.{permuted}
use Rattle.calendar.proofs.Plants.{inside_parts}
use Rattle.calendar.proofs.Clocked.{held_clocked}
use Rattle.calendar.proofs.Carded.{named_from, held_carded}

-- the number of held cells of a link's channel x
held_cells : Meaning → ℕ → ℕ → ℕ
held_cells m l x = total 168 (λ h. cond (is_held m l x h) 1 0)

pub count_clocked : (o : ℕ) → o < 168 → (m : Meaning) (l : ℕ) → held_count (clocked o m) l ≡ held_count m l
unfolding held_count clocked
count_clocked o small m l =
    total_cong m.channels _ _ (λ c _.
    total_cong 168 (λ h. cond (is_held (clocked o m) l (suc c) h) 1 0) (λ h. cond (is_held m l (suc c) (later h o)) 1 0) (λ h q. ap (λ t. cond t 1 0) (held_clocked o small m l (suc c) h q))
    ∙ total_rotate o small (λ h. cond (is_held m l (suc c) h) 1 0))

pub count_windowed : (ws : List Window) (n : ℕ) (m : Meaning) (l : ℕ) → held_count (windowed ws n m) l ≡ held_count m l
unfolding held_count is_held windowed
count_windowed ws n m l = refl

unheld : (h f : ℕ) → covers f 0 h ≡ false
unfolding covers
unheld h f = any_empty _

-- a channel that the plant lacks has no held cell
held_beyond : (m : Meaning) → Sound m → (l x : ℕ) → m.channels < x → held_cells m l x ≡ 0
unfolding held_cells is_held
held_beyond m s l x q =
    total_zero 168 (λ h. cond (is_held m l x h) 1 0) (λ h _. ap (λ t. cond t 1 0) (any_false 168 (λ f. covers f (m.live l x f) h) (λ f _. ap (λ k. covers f k h) (none f) ∙ unheld h f))) where
      none : (f : ℕ) → m.live l x f ≡ 0
      none f = ⊎_elim (λ z. z) (λ nz. absurd (let p = inside_parts m l x f (s.live_inside l x f (omega (arith, nz))) in omega (arith, q, p.3))) (cases_eq (m.live l x f) 0)

pub count_carded : (e : List ℕ) → Order e → (m : Meaning) → Sound m → (l : ℕ) → held_count (carded e m) l ≡ held_count m l
unfolding held_count carded held_cells card
count_carded e ok m s l =
    total_cong 16 (λ c. held_cells (carded e m) l (suc c)) (λ c. held_cells m l (suc (get_or e c 0 - 1)))
    (λ c q.
    let n : named (suc c) ≡ true = named_from (suc c) (omega arith) (omega (arith, q)) in
    let back : suc c - 1 ≡ c = omega arith in
    let low : get_or e c 0 ≡ suc (get_or e c 0 - 1) = omega (arith, ok.low c q) in
    let a : card e (suc c) ≡ suc (get_or e c 0 - 1) = ap (λ k. get_or e k 0) back ∙ low in
    total_cong 168 _ _ (λ h _. ap (λ t. cond t 1 0) (held_carded e ok m l (suc c) h n ∙ ap (λ x. is_held m l x h) a)))
    ∙ permuted 16 (λ c. get_or e c 0 - 1) (λ i h. omega (arith, ok.low i h, ok.high i h)) (λ i j h k z. ok.apart i j h k (omega (arith, z, ok.low i h, ok.low j k))) (λ x. held_cells m l (suc x))
    ∙ shorter where
      shorter : total 16 (λ c. held_cells m l (suc c)) ≡ total m.channels (λ c. held_cells m l (suc c))
      shorter =
          let z : m.channels + (16 - m.channels) ≡ 16 = omega (arith, s.few_channels) in
          ap (λ n. total n (λ c. held_cells m l (suc c))) (sym z) ∙ total_split m.channels (16 - m.channels) (λ c. held_cells m l (suc c))
          ∙ (let t = total_zero (16 - m.channels) (λ i. held_cells m l (suc (m.channels + i))) (λ i _. held_beyond m s l (suc (m.channels + i)) (omega arith)) in omega (arith, t))
