use Rattle.std.proofs.Common.{vec_items, refl, rules}
use Rattle.orders.proofs.Numbers.{apart_set}
use Rattle.orders.proofs.Rows.{hour_set}
use Rattle.orders.proofs.book.Book.set_hour.Goals as goal

pub returns-in-Some : goal.returns-in-Some
returns-in-Some c = hour_set (vec_items c.args.self.now.rows) c.args.i c.args.hour c.in-Some.row.now _ (search rules) (search rules) refl

pub invariant_of-self-clause-apart : goal.invariant_of-self-clause-apart
invariant_of-self-clause-apart c = apart_set (vec_items c.args.self.now.rows) c.args.i c.in-Some.row.now _ c.args.self.now.apart (search rules) refl
