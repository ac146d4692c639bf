use Rattle.std.proofs.Common.{◌≡◌, ℕ, suc, ◌+◌, vec_items, rules, tests, ap, sym, ◌∙◌, arith}
use Rattle.std.proofs.lemmas.Iterator.Consumers.{YieldsList-from_filter, YieldsList-at, count_from_yields_List}
use Rattle.std.specs.List.{range_with_len}
use Rattle.std.proofs.lemmas.List.Sums.{length-filter}
use Rattle.network.specs.Paths.{has}
use Rattle.orders.specs.Standing.{num}
use Rattle.floor.proofs.Held.{held, used_tested}
use Rattle.floor.proofs.Numbers.{tested}
use Rattle.floor.proofs.Roads.{YieldsList-from_inclusive, counted}
use Rattle.floor.proofs.used.used.Goals as goal

pub returns : goal.returns
returns c =
    let rows = vec_items c.args.book.now.rows in
    let test = λ (x : ℕ). has x (held rows) in
    count_from_yields_List c.filter.result c.count.result c.count.ensures.ran
    (YieldsList-from_filter _ test (YieldsList-at c.filter.ensures.source (YieldsList-from_inclusive 1 16 c.new.ensures.start (search rules))) c.filter.ensures.closure (λ x r q k. search (rules, tests)))
    ∙ length-filter test (range_with_len 1 16) ∙ counted test (tested (held rows)) 1 16 (λ k _. let e : 1 + k ≡ suc k = omega arith in ap (λ x. num (test x)) e) ∙ sym (used_tested rows)
