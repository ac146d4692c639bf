-- Orders that stand on their own ways are a plan.
use Rattle.std.proofs.Common.{◌≡◌, ℕ, ◌+◌, ◌≤◌, true, ◌&&◌, List, [], ◌∷◌, map, sym, refl, ap, ◌∙◌, arith}
use Rattle.std.specs.List.{AllByRecursion}
use Rattle.std.proofs.lemmas.List.FromFn.{length-range_with_len}
use Rattle.std.proofs.lemmas.List.Sums.{sum_by-cons}
use Rattle.std.proofs.lemmas.Bool.{and_parts, and_from}
use Rattle.network.specs.Paths.{has}
use Rattle.network.specs.declared.network.Network.{Network}
use Rattle.orders.specs.Standing.{Standing, num, crosses, block_has, takes, runs_in, in_cell, orders_in}
use Rattle.floor.specs.Laws.{OnPath, OwnPlanLaw}
use Rattle.floor.specs.Plans.{Placed, on, takes_cell, Apart, Pairwise, Fits, own, own_plan, orders_of}
use Rattle.floor.proofs.Numbers.{has_counting, once_counting}

-- a cell that an order takes on its own way is one that it is in
pub own_cell : (e : Standing) (l c h : ℕ) → takes_cell (own e) l c h ≡ true → in_cell e l c h ≡ true
unfolding takes in_cell
own_cell e l c h t =
    let (o, b) = and_parts (on (own e) l h) (has c (own e).channels) t in
    let (x, r) = and_parts (crosses e l) (runs_in e.order h) o in
    and_from (crosses e l && block_has e.channel e.order.width c) (runs_in e.order h)
    (and_from (crosses e l) (block_has e.channel e.order.width c) x (sym (has_counting c e.channel e.order.width) ∙ b)) r

-- an order that is in the cell counts for one
orders_in_more : (e : Standing) (es : List Standing) (l c h : ℕ) → in_cell e l c h ≡ true → orders_in (e ∷ es) l c h ≡ 1 + orders_in es l c h
orders_in_more e es l c h i = sum_by-cons (λ e. num (in_cell e l c h)) e es ∙ ap (λ b. num b + orders_in es l c h) i

orders_in_cons : (e : Standing) (es : List Standing) (l c h : ℕ) → orders_in es l c h ≤ orders_in (e ∷ es) l c h
orders_in_cons e es l c h = omega (arith, sum_by-cons (λ e. num (in_cell e l c h)) e es)

-- an order is apart from others of which none is in a cell of its own
one_apart : (e : Standing) (es : List Standing) → ((l c h : ℕ) → in_cell e l c h ≡ true → orders_in es l c h ≡ 0) → AllByRecursion (Apart (own e)) (own_plan es)
one_apart e [] none = tt
one_apart e (f ∷ es) none = (
  (λ l c h p q. let z = none l c h (own_cell e l c h p) in let m = orders_in_more f es l c h (own_cell f l c h q) in omega arith),
  one_apart e es (λ l c h p. omega (arith, none l c h p, orders_in_cons f es l c h)),
)

pub all_apart : (es : List Standing) → ((l c h : ℕ) → orders_in es l c h ≤ 1) → Pairwise Apart (own_plan es)
all_apart [] one = tt
all_apart (e ∷ es) one = (
  one_apart e es (λ l c h p. omega (arith, one l c h, orders_in_more e es l c h p)),
  all_apart es (λ l c h. omega (arith, one l c h, orders_in_cons e es l c h)),
)

same_orders : (es : List Standing) → map (λ (p : Placed). p.order) (own_plan es) ≡ orders_of es
same_orders [] = refl
same_orders (e ∷ es) = ap (λ os. e.order ∷ os) (same_orders es)

all_fit : (net : Network) (es : List Standing) → AllByRecursion (OnPath net) es → AllByRecursion (Fits net) (own_plan es)
all_fit net [] h = tt
all_fit net (e ∷ es) h =
    (record { joins = h.0; wide = length-range_with_len e.channel e.order.width; once = once_counting e.channel e.order.width }, all_fit net es h.1)

pub own_plan_law : OwnPlanLaw
own_plan_law net es paths one = record { all = same_orders es; fit = all_fit net es paths; apart = all_apart es one }
