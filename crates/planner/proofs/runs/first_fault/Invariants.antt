use Rattle.std.proofs.Common.{◌≡◌, ◌+◌, None}
use Rattle.std.specs.Option.{option_map}
use Rattle.orders.specs.Runs.{first_below, link_of, run_fault, link_fault, own_cells}
use Rattle.orders.specs.Standing.{stood}
use Rattle.planner.proofs.runs.first_fault.Given as goal

abbrev pub invariant-links : goal.invariant-links
invariant-links g l =
    let m = g.P.Plant.meaning l.plant in let own = own_cells (option_map (λ row. stood row.now) l.own) in let e = stood l.row in
    (l.found ≡ None) × (first_below (λ i. link_fault m own e i e.order.width) l.i ≡ None)

abbrev pub invariant-channels : goal.invariant-channels
invariant-channels g l =
    let m = g.P.Plant.meaning l.plant in let own = own_cells (option_map (λ row. stood row.now) l.own) in let e = stood l.row in
    (l.found ≡ None) × (first_below (λ i. link_fault m own e i e.order.width) l.i ≡ None) × (link_fault m own e l.i l.w ≡ None)

abbrev pub invariant-hours : goal.invariant-hours
invariant-hours g l =
    let m = g.P.Plant.meaning l.plant in let own = own_cells (option_map (λ row. stood row.now) l.own) in let e = stood l.row in
    (l.found ≡ None) × (first_below (λ i. link_fault m own e i e.order.width) l.i ≡ None) × (link_fault m own e l.i l.w ≡ None)
    × (run_fault m own e (link_of e l.i) (e.channel + l.w) l.j ≡ None)
