use Rattle.std.proofs.Common.{vec_items, rules, tests, arith}
use Rattle.std.proofs.lemmas.Iterator.{YieldsList-from_slice}
use Rattle.std.proofs.lemmas.Iterator.Adapters.{fits_from_length, at_most_from_yields_List}
use Rattle.floor.proofs.cells.channel_hours.Goals as goal

pub sum-requires-clause-fits : goal.sum-requires-clause-fits
sum-requires-clause-fits c = fits_from_length _ _ 64 _ (at_most_from_yields_List (YieldsList-from_slice (vec_items c.args.book.now.rows) cc) (grind arith)) c.map.ensures.closure (omega arith) (λ x r q k. search (rules, tests))
