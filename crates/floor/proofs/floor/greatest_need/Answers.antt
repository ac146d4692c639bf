use Rattle.std.proofs.Common.{◌≡◌, ℕ, suc, ◌+◌, vec_items, rules, tests, ap, ◌∙◌, arith}
use Rattle.std.proofs.lemmas.Iterator.{YieldsList-from_map}
use Rattle.std.proofs.lemmas.Iterator.Consumers.{YieldsList-at, max_from_yields_List}
use Rattle.orders.specs.Standing.{all_stood}
use Rattle.floor.specs.Floor.{busiest, greatest, always}
use Rattle.floor.specs.Plans.{orders_of}
use Rattle.floor.proofs.Roads.{YieldsList-from_inclusive, highest_of}
use Rattle.floor.proofs.floor.greatest_need.Goals as goal

pub returns : goal.returns
returns c =
    let orders = orders_of (all_stood (vec_items c.args.book.now.rows)) in
    let need = λ (v : ℕ). busiest always c.args.net.now orders v in
    let most = max_from_yields_List c.map.result c.max.result c.max.ensures.ran
    (YieldsList-from_map _ need (YieldsList-at c.map.ensures.source (YieldsList-from_inclusive 1 c.places.result c.new.ensures.start (search rules))) c.map.ensures.closure (λ x r q k. search (rules, tests))) in
    c.unwrap_or.ensures
    ∙ highest_of need (λ v. need (suc v)) 1 c.places.result c.max.result (λ v _. let e : 1 + v ≡ suc v = omega arith in ap need e) most
    ∙ ap (λ n. greatest n (λ v. need (suc v))) c.places.ensures
