use Rattle.std.proofs.Common.{◌≡◌, Some, None, refl, arith}
use Rattle.network.specs.Flags.{may_use}
use Rattle.orders.specs.declared.refusal.Refusal.TheVariants.{NoWay}
use Rattle.planner.specs.Seen.{seen}
use Rattle.planner.proofs.Found.{found_none, found_block, found_no_room, found_takes}
use Rattle.std.proofs.lemmas.Result.{err_from_is_err_and}
use Rattle.planner.proofs.planner.Planner.found_row.Goals as goal

pub returns-in_err-way-clause-row : goal.returns-in_err-way-clause-row
returns-in_err-way-clause-row g c =
    let s = seen g.P.Plant.meaning g.C.Cost.kind c.args.self.now in
    let none : c.find_way.result ≡ None = grind arith in
    let why : c.in_err-way.field-0.0 ≡ NoWay = grind arith in
    let p = err_from_is_err_and c.from_residual-in_err-way.result c.from_residual-in_err-way.ensures.1 in
    rw (p.1, p.2, why)
    (found_none s.rules s.plant s.standing c.args.request c.in_ok-order.order (may_use c.all-all.result) c.in_ok-order.ensures c.all-all.ensures (rw none at c.find_way.ensures))

pub invariant_of-row : goal.invariant_of-row
invariant_of-row g c =
    let s = seen g.P.Plant.meaning g.C.Cost.kind c.args.self.now in
    let is : c.find_way.result ≡ Some c.in_ok-way.way = grind arith in
    let ensured = rw is at c.find_way.ensures in
    record { block = found_block s.rules s.plant s.standing c.args.request c.in_ok-order.order (may_use c.all-all.result) c.in_ok-order.ensures c.all-all.ensures c.in_ok-way.way ensured g.C.Cost.laws (g.P.Plant.sound c.args.self.now.plant) }

pub returns-then-room-runs_needed : goal.returns-then-room-runs_needed
returns-then-room-runs_needed g c =
    let s = seen g.P.Plant.meaning g.C.Cost.kind c.args.self.now in
    let is : c.find_way.result ≡ Some c.in_ok-way.way = grind arith in
    let ensured = rw is at c.find_way.ensures in
    record {
      row = found_no_room s.rules s.plant s.standing c.args.request c.in_ok-order.order (may_use c.all-all.result) c.in_ok-order.ensures c.all-all.ensures c.in_ok-way.way ensured c.room.result c.runs_needed.result c.room.ensures c.runs_needed.ensures c.if-room-runs_needed.true;
      same = refl;
    }

pub returns : goal.returns
returns g c =
    let s = seen g.P.Plant.meaning g.C.Cost.kind c.args.self.now in
    let is : c.find_way.result ≡ Some c.in_ok-way.way = grind arith in
    let ensured = rw is at c.find_way.ensures in
    record {
      row = found_takes s.rules s.plant s.standing c.args.request c.in_ok-order.order (may_use c.all-all.result) c.in_ok-order.ensures c.all-all.ensures c.in_ok-way.way ensured c.room.result c.runs_needed.result c.room.ensures c.runs_needed.ensures (omega (arith, c.if-room-runs_needed.false));
      same = refl;
    }
