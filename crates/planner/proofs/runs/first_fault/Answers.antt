use Rattle.std.proofs.Common.{◌≡◌, ℕ, ◌+◌, Bool, Option, sym, refl, ap, ◌∙◌, arith}
use Rattle.std.specs.Option.{option_map}
use Rattle.calendar.specs.Week.{later}
use Rattle.calendar.specs.Meaning.{Meaning}
use Rattle.orders.specs.Runs.{link_of, cell_fault, run_fault, link_fault, own_cells}
use Rattle.orders.specs.Standing.{Standing, stood}
use Rattle.orders.specs.declared.refusal.Refusal.{Refusal}
use Rattle.orders.proofs.Firsts.{first_empty, first_next, first_found, first_done}
use Rattle.planner.proofs.runs.first_fault.Goals as goal

-- what the inner loops look for
abbrev on_channels : Meaning → (ℕ → ℕ → ℕ → Bool) → Standing → ℕ → ℕ → Option Refusal
on_channels m own e i w = run_fault m own e (link_of e i) (e.channel + w) e.order.hours

abbrev in_hours : Meaning → (ℕ → ℕ → ℕ → Bool) → Standing → ℕ → ℕ → ℕ → Option Refusal
in_hours m own e i w j = cell_fault m own (link_of e i) (e.channel + w) (later e.order.first j)

pub links-init : goal.links-init
links-init g c = (refl, first_empty _)

pub channels-init : goal.channels-init
channels-init g c = (c.links.invariant.0, c.links.invariant.1, first_empty _)

pub hours-init : goal.hours-init
hours-init g c = (c.channels.invariant.0, c.channels.invariant.1, c.channels.invariant.2, first_empty _)

-- the cell that the innermost loop asks about is the one that it should
same_cell : (m : Meaning) (own : ℕ → ℕ → ℕ → Bool) (e : Standing) (i w j l h : ℕ) → l ≡ link_of e i → h ≡ later e.order.first j → cell_fault m own l (e.channel + w) h ≡ in_hours m own e i w j
same_cell m own e i w j l h a b = ap (λ x. cell_fault m own x (e.channel + w) h) a ∙ ap (cell_fault m own (link_of e i) (e.channel + w)) b

pub hours-preserved : goal.hours-preserved
hours-preserved g c =
    let m = g.P.Plant.meaning c.args.plant.now in let own = own_cells (option_map (λ row. stood row.now) c.args.own) in let e = stood c.args.row.now in (
      c.hours.invariant.0,
      c.hours.invariant.1,
      c.hours.invariant.2,
      first_next (in_hours m own e c.links.i c.channels.w) c.hours.j c.hours.invariant.3
          (c.in_default.ensures ∙ same_cell m own e c.links.i c.channels.w c.hours.j c.link_at-link.result c.hour_after.result c.link_at-link.ensures c.hour_after.ensures),
    )

pub channels-preserved : goal.channels-preserved
channels-preserved g c =
    let m = g.P.Plant.meaning c.args.plant.now in let own = own_cells (option_map (λ row. stood row.now) c.args.own) in let e = stood c.args.row.now in (
      c.hours.invariant.0,
      c.hours.invariant.1,
      first_next (on_channels m own e c.links.i) c.channels.w c.hours.invariant.2
          (first_done (in_hours m own e c.links.i c.channels.w) e.order.hours c.hours.j c.hours.invariant.3 (omega arith) (omega arith)),
    )

pub channels-preserved-then-is_free : goal.channels-preserved-then-is_free
channels-preserved-then-is_free g c =
    let m = g.P.Plant.meaning c.args.plant.now in let own = own_cells (option_map (λ row. stood row.now) c.args.own) in let e = stood c.args.row.now in (
      c.channels.invariant.0,
      c.channels.invariant.1,
      first_next (on_channels m own e c.links.i) c.channels.w c.channels.invariant.2
          (sym (ap (λ l. run_fault m own e l (e.channel + c.channels.w) e.order.hours) (sym c.link_at-link.ensures) ∙ c.if-is_free.ensures refl own)),
    )

pub links-preserved : goal.links-preserved
links-preserved g c =
    let m = g.P.Plant.meaning c.args.plant.now in let own = own_cells (option_map (λ row. stood row.now) c.args.own) in let e = stood c.args.row.now in (
      c.channels.invariant.0,
      first_next (λ i. link_fault m own e i e.order.width) c.links.i c.channels.invariant.1
          (first_done (on_channels m own e c.links.i) e.order.width c.channels.w c.channels.invariant.2 (omega arith) (omega arith)),
    )

pub returns-in-Some : goal.returns-in-Some
returns-in-Some g c =
    let m = g.P.Plant.meaning c.args.plant.now in let own = own_cells (option_map (λ row. stood row.now) c.args.own) in let e = stood c.args.row.now in
    let i = c.links.i in let w = c.channels.w in let j = c.hours.j in
    let why = c.in-Some.why in
    let here = c.in-Some.ensures ∙ same_cell m own e i w j c.link_at-link.result c.hour_after.result c.link_at-link.ensures c.hour_after.ensures in
    let hour = first_found (in_hours m own e i w) e.order.hours j why (omega arith) c.hours.invariant.3 here in
    let channel = first_found (on_channels m own e i) e.order.width w why (omega arith) c.hours.invariant.2 hour in
    first_found (λ i. link_fault m own e i e.order.width) _ i why (omega arith) c.hours.invariant.1 channel

pub returns-after-links : goal.returns-after-links
returns-after-links g c =
    let m = g.P.Plant.meaning c.args.plant.now in let own = own_cells (option_map (λ row. stood row.now) c.args.own) in let e = stood c.args.row.now in
    c.links.invariant.0 ∙ first_done (λ i. link_fault m own e i e.order.width) _ c.links.i c.links.invariant.1 (omega arith) (omega arith)
