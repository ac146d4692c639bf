-- On one link in one hour a plan takes each of its channels once at most.
use Rattle.std.proofs.Common.{◌≡◌, ℕ, ◌≤◌, Bool, true, false, cond, List, [], ◌∷◌, length, sum_by, refl, ⊎_elim, arith, length-append}
use Rattle.std.specs.List.{flat_map, AllByRecursion}
use Rattle.std.proofs.lemmas.List.Sums.{sum_by-cons}
use Rattle.std.proofs.lemmas.Bool.{cases_Bool, and_parts}
use Rattle.network.specs.Paths.{has}
use Rattle.network.specs.declared.network.Network.{Network}
use Rattle.orders.specs.Standing.{num}
use Rattle.floor.specs.Plans.{Placed, on, takes_cell, Apart, Pairwise, Fits, channels_in, channels_of}
use Rattle.floor.proofs.Numbers.{times, times_append, times_none, times_once, has_append, pigeonhole}

-- the channels that p takes there
abbrev taken : ℕ → ℕ → Placed → List ℕ
taken l h p = cond (on p l h) p.channels []

-- the width that p takes there
abbrev pub width_on : ℕ → ℕ → Placed → ℕ
width_on l h p = cond (on p l h) p.order.width 0

taken_none : (l h c : ℕ) (p : Placed) → takes_cell p l c h ≡ false → times c (taken l h p) ≡ 0
taken_none l h c p e =
    ⊎_elim
    (λ (b : on p l h ≡ true). rw b (times_none c p.channels (rw b at e)))
    (λ (b : on p l h ≡ false). rw b refl)
    (cases_Bool (on p l h))

taken_once : (net : Network) (l h c : ℕ) (p : Placed) → Fits net p → times c (taken l h p) ≤ 1
taken_once net l h c p f =
    ⊎_elim
    (λ (b : on p l h ≡ true). rw b (times_once c p.channels f.once))
    (λ (b : on p l h ≡ false). rw b (omega arith))
    (cases_Bool (on p l h))

others_none : (l h c : ℕ) (p : Placed) (qs : List Placed) → takes_cell p l c h ≡ true → AllByRecursion (Apart p) qs → times c (flat_map (taken l h) qs) ≡ 0
others_none l h c p [] e a = refl
others_none l h c p (q ∷ qs) e a =
    let not_there : takes_cell q l c h ≡ false = ⊎_elim (λ (b : takes_cell q l c h ≡ true). absurd (a.0 l c h e b)) (λ (b : takes_cell q l c h ≡ false). b) (cases_Bool (takes_cell q l c h)) in
    omega (arith, times_append c (taken l h q) (flat_map (taken l h) qs), taken_none l h c q not_there, others_none l h c p qs e a.1)

num_most : (b : Bool) → num b ≤ 1
num_most true = omega arith
num_most false = omega arith

-- a channel is taken once at most, and only if it is one of the plan's
cell_once : (net : Network) (l h c : ℕ) (ps : List Placed) → AllByRecursion (Fits net) ps → Pairwise Apart ps → times c (flat_map (taken l h) ps) ≤ num (has c (channels_in ps))
cell_once net l h c [] f a = omega arith
cell_once net l h c (p ∷ ps) f a =
    let split = times_append c (taken l h p) (flat_map (taken l h) ps) in
    let first = taken_once net l h c p f.0 in
    rw (has_append c p.channels (channels_in ps))
    (⊎_elim
    (λ (b : takes_cell p l c h ≡ true).
    let m = (and_parts (on p l h) (has c p.channels) b).1 in
    let rest = others_none l h c p ps b a.0 in
    rw m (omega arith))
    (λ (b : takes_cell p l c h ≡ false).
    let none = taken_none l h c p b in
    let ih = cell_once net l h c ps f.1 a.1 in
    ⊎_elim
    (λ (m : has c p.channels ≡ true). rw m (omega (arith, num_most (has c (channels_in ps)))))
    (λ (m : has c p.channels ≡ false). rw m (omega arith))
    (cases_Bool (has c p.channels)))
    (cases_Bool (takes_cell p l c h)))

taken_length : (net : Network) (l h : ℕ) (ps : List Placed) → AllByRecursion (Fits net) ps → length (flat_map (taken l h) ps) ≡ sum_by (width_on l h) ps
taken_length net l h [] f = refl
taken_length net l h (p ∷ ps) f =
    let here : length (taken l h p) ≡ width_on l h p = ⊎_elim (λ (b : on p l h ≡ true). rw b f.0.wide) (λ (b : on p l h ≡ false). rw b refl) (cases_Bool (on p l h)) in
    omega (arith, length-append (taken l h p) (flat_map (taken l h) ps), here, taken_length net l h ps f.1, sum_by-cons (width_on l h) p ps)

-- the widths on one link in one hour come to no more than the plan's channels
pub link_bound : (net : Network) (l h : ℕ) (ps : List Placed) → AllByRecursion (Fits net) ps → Pairwise Apart ps → sum_by (width_on l h) ps ≤ channels_of ps
link_bound net l h ps f a = rw (← taken_length net l h ps f) (pigeonhole (channels_in ps) (flat_map (taken l h) ps) (λ c. cell_once net l h c ps f a))
