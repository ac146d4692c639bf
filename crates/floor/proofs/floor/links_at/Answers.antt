use Rattle.std.proofs.Common.{◌≡◌, ℕ, suc, ◌+◌, rules, tests, ap, ◌∙◌, arith}
use Rattle.std.proofs.lemmas.Iterator.Consumers.{YieldsList-from_filter, YieldsList-at, count_from_yields_List}
use Rattle.std.specs.List.{range_with_len}
use Rattle.std.proofs.lemmas.List.Sums.{length-filter}
use Rattle.calendar.specs.Week.{total}
use Rattle.orders.specs.Standing.{num}
use Rattle.floor.specs.Floor.{touches}
use Rattle.floor.proofs.Roads.{YieldsList-from_inclusive, counted}
use Rattle.floor.proofs.floor.links_at.Goals as goal

pub returns-clause-is : goal.returns-clause-is
returns-clause-is c h =
    let test = λ (l : ℕ). touches c.args.net.now l c.args.v in
    count_from_yields_List c.filter.result c.count.result c.count.ensures.ran
    (YieldsList-from_filter _ test (YieldsList-at c.filter.ensures.source (YieldsList-from_inclusive 1 c.link_count.result c.new.ensures.start (search rules))) c.filter.ensures.closure (λ x r q k. search (rules, tests)))
    ∙ length-filter test (range_with_len 1 c.link_count.result) ∙ counted test (λ k. num (touches c.args.net.now (suc k) c.args.v)) 1 c.link_count.result (λ k _. let e : 1 + k ≡ suc k = omega arith in ap (λ l. num (test l)) e) ∙ ap (λ n. total n (λ k. num (touches c.args.net.now (suc k) c.args.v))) c.link_count.ensures
