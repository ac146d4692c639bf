use Rattle.std.proofs.Common.{vec_items, ap, ◌∙◌}
use Rattle.orders.specs.Standing.{stood, all_stood}
use Rattle.orders.proofs.Numbers.{apart_removed}
use Rattle.orders.proofs.Rows.{removed_map}
use Rattle.orders.proofs.book.Book.remove.Goals as goal

pub returns-then-i-len : goal.returns-then-i-len
returns-then-i-len c = ap all_stood c.remove.ensures.items ∙ removed_map stood (vec_items c.args.self.now.rows) c.args.i

pub invariant_of-self-clause-apart : goal.invariant_of-self-clause-apart
invariant_of-self-clause-apart c = apart_removed (vec_items c.args.self.now.rows) (vec_items c.remove.new.self) c.args.i c.args.self.now.apart c.remove.ensures.items
