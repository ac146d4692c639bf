use Rattle.std.proofs.Common.{vec_items, rules, tests, ◌∙◌}
use Rattle.std.proofs.lemmas.Iterator.{YieldsList-from_slice}
use Rattle.std.proofs.lemmas.Iterator.Search.{any_from_yields_List}
use Rattle.floor.proofs.Held.{row_has, held_any}
use Rattle.floor.proofs.used.holds.Goals as goal

pub returns : goal.returns
returns c =
    let rows = vec_items c.args.book.now.rows in
    any_from_yields_List (row_has c.args.c) _ _ c.any.result c.any.ensures.ran (YieldsList-from_slice rows cc) (λ x b q k. search (rules, tests))
    ∙ held_any c.args.c rows
