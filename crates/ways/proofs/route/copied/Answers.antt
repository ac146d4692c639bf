use Rattle.std.proofs.Common.{◌≡◌, ◌-◌, ◌<◌, false, length, get_or, Ok, Err, Result, is_ok, ap, ◌∙◌, ⊎_elim, arith}
use Rattle.std.specs.Result.{OkIff}
use Rattle.std.proofs.lemmas.List.{get_or-take}
use Rattle.ways.proofs.Copied.{too_few, too_large}
use Rattle.ways.proofs.route.copied.Goals as goal

refuted : {T E : Type 0} (r : Result T E) (P : Type 0) (v : T) → OkIff r P v → false ≡ is_ok r → P → ⊥
refuted (Ok x) P v h e p = absurd (cc)
refuted (Err x) P v h e p = h p

pub returns-in_err-numbers : goal.returns-in_err-numbers
returns-in_err-numbers c =
    let r = c.args.route in
    rw c.from_residual.ensures (λ net from to. too_few net from to r (length r.links) (omega arith) (⊎_elim (λ h. omega (arith, h)) (λ h. h) c.in_err-numbers.ensures.lookup.0))

pub returns-in_err-ok : goal.returns-in_err-ok
returns-in_err-ok c =
    let r = c.args.route in
    let i = c.loop-number.number-index in
    let xs = c.in_ok-numbers.numbers.now in
    let n = c.in_ok-numbers.ensures.lookup.0 in
    let more : i < r.count = omega (arith, n.3, c.loop-number-test.true) in
    let large : 255 < get_or xs i 0 = (let h : get_or xs i 0 < 256 → ⊥ = refuted c.try_from.result _ _ c.try_from.ensures c.in_err-ok.ensures.variant in omega (arith, h)) in
    rw c.from_residual-in_err-ok.ensures
    (λ net from to. too_large net from to r i (get_or xs i 0) more (ap (λ ys. get_or ys i 0) n.2 ∙ get_or-take (r.count - 0) r.links i 0 (omega (arith, more))) large)
