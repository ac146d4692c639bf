use Rattle.std.proofs.Common.{◌+◌, ◌*◌, set, sym, ap, ◌∙◌}
use Rattle.network.specs.Flags.{may_use}
use Rattle.network.specs.Grounds.{ground_of}
use Rattle.network.specs.Method.{better, cell_at}
use Rattle.network.proofs.Crossings.{crossing_open, crossing_absent, crossing_shut, price_is}
use Rattle.network.proofs.Rows.{link_relaxed, nothing_relaxed}
use Rattle.network.proofs.search.Scratch.relax_link.Goals as goal

pub returns-then-not-is_usable : goal.returns-then-not-is_usable
returns-then-not-is_usable g c =
    let a = c.args in
    nothing_relaxed (ground_of g.C.Cost.kind a.over) a.self.now.cells.items a.j a.number (crossing_shut a.over.net.now (may_use a.over.usable.now) a.number (sym c.if-not-is_usable.ensures))

pub returns-in_default : goal.returns-in_default
returns-in_default g c =
    let a = c.args in
    nothing_relaxed (ground_of g.C.Cost.kind a.over) a.self.now.cells.items a.j a.number (crossing_absent a.over.net.now (may_use a.over.usable.now) a.number (sym c.in_default.ensures))

pub returns : goal.returns
returns g c =
    let k = g.C.Cost.kind in
    let a = c.args in
    let net = a.over.net.now in
    let s = a.self.now in
    let l = c.in-Some.link in
    let first = c.offer.new.self.cells.items in
    link_relaxed (ground_of k a.over) s.cells.items first c.offer-2.new.self.cells.items a.j a.number l c.of_link-price.result (sym s.cells.ok.0 ∙ s.full) c.requires
    (crossing_open net (may_use a.over.usable.now) a.number l (sym c.in-Some.ensures) (sym c.if-not-is_usable.ensures))
    (c.of_link-price.ensures ∙ sym (price_is k net a.number l (sym c.in-Some.ensures)))
    (c.offer.ensures ∙ ap (λ o. set s.cells.items ((a.j + 1) * 33 + l.one) (better k.at_most (cell_at s.cells.items (a.j + 1) l.one) o)) c.by_way_of.ensures)
    (c.offer-2.ensures ∙ ap (λ o. set first ((a.j + 1) * 33 + l.two) (better k.at_most (cell_at first (a.j + 1) l.two) o)) c.by_way_of-2.ensures)
