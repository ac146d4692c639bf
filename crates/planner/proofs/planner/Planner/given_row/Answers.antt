use Rattle.std.proofs.Common.{◌≡◌, Some, None, arith}
use Rattle.orders.specs.declared.refusal.Refusal.TheVariants.{NotAPath, BadBlock}
use Rattle.planner.specs.Seen.{seen}
use Rattle.planner.proofs.Given.{given_no_path, given_no_block, given_block, given_no_cell, given_no_room, given_takes}
use Rattle.std.proofs.lemmas.Result.{err_from_is_err_and}
use Rattle.planner.proofs.planner.Planner.given_row.Goals as goal

pub returns-in_err-path : goal.returns-in_err-path
returns-in_err-path g c =
    let s = seen g.P.Plant.meaning g.C.Cost.kind c.args.self.now in
    let none : c.named_path.result ≡ None = grind arith in
    let why : c.in_err-path.field-0.0 ≡ NotAPath = grind arith in
    let p = err_from_is_err_and c.from_residual-in_err-path.result c.from_residual-in_err-path.ensures.1 in
    rw (p.1, p.2, why)
    (given_no_path s.rules s.plant s.standing c.args.request c.args.channel c.args.route c.in_ok-order.order c.in_ok-order.ensures (rw none at c.named_path.ensures))

pub returns-in_err-channel : goal.returns-in_err-channel
returns-in_err-channel g c =
    let s = seen g.P.Plant.meaning g.C.Cost.kind c.args.self.now in
    let path_is : c.named_path.result ≡ Some c.in_ok-path.path = grind arith in
    let path = rw path_is at c.named_path.ensures in
    let none : c.checked_block.result ≡ None = grind arith in
    let why : c.in_err-channel.field-0.0 ≡ BadBlock = grind arith in
    let p = err_from_is_err_and c.from_residual-in_err-channel.result c.from_residual-in_err-channel.ensures.1 in
    rw (p.1, p.2, why)
    (given_no_block s.rules s.plant s.standing c.args.request c.args.channel c.args.route c.in_ok-order.order c.in_ok-order.ensures c.in_ok-path.path path (rw none at c.checked_block.ensures))

pub invariant_of-row : goal.invariant_of-row
invariant_of-row g c =
    let s = seen g.P.Plant.meaning g.C.Cost.kind c.args.self.now in
    let path_is : c.named_path.result ≡ Some c.in_ok-path.path = grind arith in
    let path = rw path_is at c.named_path.ensures in
    let block_is : c.checked_block.result ≡ Some c.in_ok-channel.channel = grind arith in
    let block = rw block_is at c.checked_block.ensures in
    record { block = given_block s.rules s.plant s.standing c.args.request c.args.channel c.args.route c.in_ok-order.order c.in_ok-order.ensures c.in_ok-path.path path c.in_ok-channel.channel block (g.P.Plant.sound c.args.self.now.plant) }

pub returns-in-Some : goal.returns-in-Some
returns-in-Some g c =
    let s = seen g.P.Plant.meaning g.C.Cost.kind c.args.self.now in
    let path_is : c.named_path.result ≡ Some c.in_ok-path.path = grind arith in
    let path = rw path_is at c.named_path.ensures in
    let block_is : c.checked_block.result ≡ Some c.in_ok-channel.channel = grind arith in
    let block = rw block_is at c.checked_block.ensures in
    given_no_cell s.rules s.plant s.standing c.args.request c.args.channel c.args.route c.in_ok-order.order c.in_ok-order.ensures c.in_ok-path.path path c.in_ok-channel.channel block c.in-Some.why c.in-Some.ensures

pub returns-then-room-runs_needed : goal.returns-then-room-runs_needed
returns-then-room-runs_needed g c =
    let s = seen g.P.Plant.meaning g.C.Cost.kind c.args.self.now in
    let path_is : c.named_path.result ≡ Some c.in_ok-path.path = grind arith in
    let path = rw path_is at c.named_path.ensures in
    let block_is : c.checked_block.result ≡ Some c.in_ok-channel.channel = grind arith in
    let block = rw block_is at c.checked_block.ensures in
    given_no_room s.rules s.plant s.standing c.args.request c.args.channel c.args.route c.in_ok-order.order c.in_ok-order.ensures c.in_ok-path.path path c.in_ok-channel.channel block c.in_default.ensures c.room.result c.runs_needed.result c.room.ensures c.runs_needed.ensures c.if-room-runs_needed.true

pub returns : goal.returns
returns g c =
    let s = seen g.P.Plant.meaning g.C.Cost.kind c.args.self.now in
    let path_is : c.named_path.result ≡ Some c.in_ok-path.path = grind arith in
    let path = rw path_is at c.named_path.ensures in
    let block_is : c.checked_block.result ≡ Some c.in_ok-channel.channel = grind arith in
    let block = rw block_is at c.checked_block.ensures in
    given_takes s.rules s.plant s.standing c.args.request c.args.channel c.args.route c.in_ok-order.order c.in_ok-order.ensures c.in_ok-path.path path c.in_ok-channel.channel block c.in_default.ensures c.room.result c.runs_needed.result c.room.ensures c.runs_needed.ensures (omega (arith, c.if-room-runs_needed.false))
