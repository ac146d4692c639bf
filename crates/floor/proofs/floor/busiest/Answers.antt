use Rattle.std.proofs.Common.{◌≡◌, ℕ, ◌+◌, vec_items, rules, tests, refl, ap, ◌∙◌, arith}
use Rattle.std.proofs.lemmas.Iterator.{YieldsList-from_range, YieldsList-from_map}
use Rattle.std.proofs.lemmas.Iterator.Consumers.{max_from_yields_List}
use Rattle.orders.specs.Standing.{all_stood}
use Rattle.floor.specs.Floor.{load, rounded_up, need as need_at, always}
use Rattle.floor.specs.Plans.{orders_of}
use Rattle.floor.proofs.Roads.{highest_of}
use Rattle.floor.proofs.floor.busiest.Goals as goal

pub returns : goal.returns
returns c =
    let orders = orders_of (all_stood (vec_items c.args.book.now.rows)) in
    let need = λ (h : ℕ). rounded_up (load orders c.args.v h) c.links_at-links.result in
    let most = max_from_yields_List c.map.result c.max.result c.max.ensures.ran
    (YieldsList-from_map _ need (YieldsList-from_range 0 168 168 c.map.ensures.source refl) c.map.ensures.closure (λ x r q k. search (rules, tests))) in
    c.unwrap_or.ensures
    ∙ highest_of need (λ h. need_at always c.args.net.now orders c.args.v h) 0 168 c.max.result
    (λ h _. let e : 0 + h ≡ h = omega arith in ap need e ∙ ap (rounded_up (load orders c.args.v h)) (c.links_at-links.ensures.is h)) most
