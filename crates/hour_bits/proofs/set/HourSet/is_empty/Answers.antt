use Rattle.std.proofs.Common.{eqb, ◌∙◌, rules, tests}
use Rattle.std.proofs.lemmas.Iterator.{YieldsList-from_slice}
use Rattle.std.proofs.lemmas.Iterator.Search.{all_from_yields_List}
use Rattle.hour_bits.proofs.Rows.{none_set}
use Rattle.hour_bits.proofs.set.HourSet.is_empty.Goals as goal

pub returns : goal.returns
returns c = let ws = c.args.self.words in
    all_from_yields_List (λ w. eqb w 0) _ _ _ c.all.ensures.ran (YieldsList-from_slice ws cc) (λ x b q k. search (rules, tests))
    ∙ none_set ws (search rules) (search rules) (search rules) c.args.self.week
