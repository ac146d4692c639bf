use Rattle.std.proofs.Common.{◌≡◌, eqb, vec_items, rules, tests}
use Rattle.std.proofs.lemmas.Iterator.{YieldsList-from_slice}
use Rattle.std.proofs.lemmas.Iterator.Search.{position_from_yields_List}
use Rattle.std.specs.List.{position}
use Rattle.orders.specs.declared.row.Row.{Row}
use Rattle.orders.proofs.Places.{found_by}
use Rattle.orders.proofs.book.Book.find.Goals as goal

pub returns : goal.returns
returns c =
    let rows = vec_items c.args.self.now.rows in
    let test = λ (r : Row). eqb r.order.number c.args.number in
    let first : c.position.result ≡ position test rows
    = position_from_yields_List test _ _ c.position.result c.position.ensures.ran (YieldsList-from_slice rows cc) (λ x b q k. search (rules, tests)) in
    found_by c.args.number rows _ (search (first, rules))
