use Rattle.std.proofs.Common.{vec_items, rules}
use Rattle.orders.proofs.Numbers.{apart_push}
use Rattle.orders.proofs.book.Book.push.Goals as goal

pub invariant_of-self-clause-apart : goal.invariant_of-self-clause-apart
invariant_of-self-clause-apart c = apart_push (vec_items c.args.self.now.rows) (vec_items c.push_reserved.new.self) c.args.row c.args.self.now.apart (search rules) c.push_reserved.ensures.items
