use Rattle.std.proofs.Common.{ℕ, ◌+◌, ◌∙◌, refl, rules, tests, arith}
use Rattle.std.proofs.lemmas.Iterator.{YieldsList-from_range}
use Rattle.std.proofs.lemmas.Iterator.Search.{all_from_yields_List}
use Rattle.ways.specs.Hours.{block_free, cell_at}
use Rattle.ways.proofs.Ranges.{all_below}
use Rattle.ways.proofs.free_channels.FreeChannels.has_block.Goals as goal

pub returns : goal.returns
unfolding block_free
returns c =
    let w = c.args.order.width in
    let p = λ (k : ℕ). cell_at c.args.self.now.cells.items c.args.link (c.args.a + k) in
    all_from_yields_List p _ _ _ c.all.ensures.ran (YieldsList-from_range 0 w w refl (omega arith)) (λ x b q k. search (rules, tests)) ∙ all_below w p
