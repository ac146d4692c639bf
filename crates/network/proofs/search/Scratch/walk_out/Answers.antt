use Rattle.std.proofs.Common.{◌-◌, ap, ◌∙◌, arith}
use Rattle.std.specs.Option.{unwrap_or}
use Rattle.network.specs.Flags.{may_use}
use Rattle.network.specs.Grounds.{ground_of}
use Rattle.network.specs.Method.{greedy, cell_at}
use Rattle.network.proofs.Choosing.{or_there}
use Rattle.network.proofs.Steps.{found_fit, walk_more, walk_stops, walk_all}
use Rattle.network.proofs.search.Scratch.walk_out.Goals as goal

pub returns-in_default : goal.returns-in_default
returns-in_default g c =
    let k = g.C.Cost.kind in
    let a = c.args in
    let over = ground_of k a.over in
    let rows = cell_at a.self.now.cells.items in
    let l = c.loop-step in
    let first = found_fit k a.over.net.now (may_use a.over.usable.now) a.bound (rows (a.count - l.step - 1)) l.v l.paid in
    walk_stops over a.bound rows a.count (greedy over a.bound rows a.count a.from k.none) l.path l.step l.v l.paid (omega arith) l.invariant (c.in_default.ensures ∙ first)

pub loop-step-preserved : goal.loop-step-preserved
loop-step-preserved g c =
    let k = g.C.Cost.kind in
    let a = c.args in
    let over = ground_of k a.over in
    let rows = cell_at a.self.now.cells.items in
    let l = c.loop-step in
    let first = found_fit k a.over.net.now (may_use a.over.usable.now) a.bound (rows (a.count - l.step - 1)) l.v l.paid in
    walk_more over a.bound rows a.count (greedy over a.bound rows a.count a.from k.none) l.path c.push.new.self l.step l.v c.unwrap_or-v.result c.in-Some.number l.paid c.join-paid.result (omega arith) (omega arith) l.invariant
    (c.in-Some.ensures ∙ first)
    c.push.ensures
    (c.join-paid.ensures ∙ ap (k.joined l.paid) c.price.ensures)
    (c.unwrap_or-v.ensures ∙ ap (λ o. unwrap_or o l.v) c.next_place.ensures ∙ or_there (over.hop l.v c.in-Some.number) l.v)

pub returns : goal.returns
returns g c =
    let k = g.C.Cost.kind in
    let a = c.args in
    let over = ground_of k a.over in
    let rows = cell_at a.self.now.cells.items in
    let l = c.loop-step in
    walk_all over a.bound rows a.count (greedy over a.bound rows a.count a.from k.none) l.path l.step l.v l.paid (omega arith) l.invariant
