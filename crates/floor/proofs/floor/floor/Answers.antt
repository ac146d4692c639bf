use Rattle.std.proofs.Common.{vec_items, arith}
use Rattle.orders.specs.Standing.{all_stood}
use Rattle.floor.specs.Plans.{orders_of}
use Rattle.floor.proofs.Floors.{floor_law}
use Rattle.floor.proofs.floor.floor.Goals as goal

pub returns : goal.returns
returns c =
    let is = c.greatest_need.ensures in
    record {
      is = is;
      least = λ plan p. omega (arith, is, floor_law c.args.net.now (orders_of (all_stood (vec_items c.args.book.now.rows))) plan p);
    }
