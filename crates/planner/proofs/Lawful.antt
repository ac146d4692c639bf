-- The law from the tie.
use Rattle.std.proofs.Common.{◌≡◌, ℕ, ◌≤◌, not, List, [], ◌∷◌, sum_by, ap, arith}
use Rattle.std.specs.List.{AllByRecursion}
use Rattle.std.proofs.lemmas.List.Sums.{sum_by-cons}
use Rattle.calendar.specs.Meaning.{Meaning, is_held}
use Rattle.network.specs.Paths.{crossing}
use Rattle.network.specs.declared.network.Network.{Network}
use Rattle.ways.specs.Ways.{every_link}
use Rattle.ways.proofs.Routes.{path_parts}
use Rattle.orders.specs.Calls.{Rules}
use Rattle.orders.specs.Standing.{Standing, num, orders_in}
use Rattle.orders.proofs.Counts.{held_sum}
use Rattle.orders.proofs.Tied.{fit, Tied}
use Rattle.orders.proofs.Ties.{fit_of, fit_parts, num_one}
use Rattle.floor.specs.Floor.{floor}
use Rattle.floor.specs.Laws.{OnPath}
use Rattle.floor.specs.Plans.{Plan, own_plan, orders_of, reported}
use Rattle.floor.specs.declared.report.Report.{Report}
use Rattle.floor.proofs.Floors.{floor_law}
use Rattle.floor.proofs.Owns.{own_plan_law}
use Rattle.planner.specs.Law.{Lawful}

-- every order that fits is on a path
on_paths : (net : Network) (L C : ℕ) (es : List Standing) → sum_by (λ e. num (not (fit net L C e))) es ≡ 0 → AllByRecursion (OnPath net) es
on_paths net L C [] z = tt
on_paths net L C (e ∷ es) z =
    let misfits = sum_by-cons (λ x. num (not (fit net L C x))) e es in
    let F = fit_parts net L C e (fit_of (fit net L C e) (omega (arith, z, misfits))) in
    let p = path_parts (crossing net every_link) net.hops e.order.from e.order.to e.path F.path in
    (record { some = p.some; arrives = p.arrives; once = p.once }, on_paths net L C es (omega (arith, z, misfits)))

pub lawful : {C : Type 0} (g : Rules C) (s m : Meaning) (es : List Standing) (r : Report) → Tied g.net s m es → r ≡ reported g.net es → Lawful g s m es r
lawful g s m es r t told =
    let one : (l c h : ℕ) → orders_in es l c h ≤ 1 = λ l c h. omega (arith, t.held l c h, num_one (is_held m l c h)) in
    let own : Plan g.net (orders_of es) (own_plan es) = own_plan_law g.net es (on_paths g.net s.links s.channels es t.fits) one in
    let is-floor : r.floor ≡ floor g.net (orders_of es) = ap (λ (x : Report). x.floor) told in
    record {
      held_counts = held_sum g.net s m es t;
      one_in_a_cell = one;
      none_where_closed = t.shut;
      none_where_held = λ l c h z. omega (arith, t.held l c h, num_one (is_held m l c h), ap num z);
      floor_reported = is-floor;
      below_every_plan = λ plan p. omega (arith, is-floor, floor_law g.net (orders_of es) plan p);
      own_ways_planned = own;
      used_reported = ap (λ (x : Report). x.used) told;
      same_links = t.links;
      same_channels = t.channels;
      same_limit = t.limit;
      same_closed = t.closed;
    }
