use Rattle.std.proofs.Common.{Some, sym, ap, ◌∙◌}
use Rattle.network.specs.Flags.{may_use}
use Rattle.network.proofs.Finds.{chosen_outside, chosen_nothing, chosen_walked, picked_few, named_rightly}
use Rattle.network.proofs.search.chosen_path.Goals as goal

pub returns-then-not-two_places : goal.returns-then-not-two_places
returns-then-not-two_places g c =
    let k = g.C.Cost in
    let a = c.args in
    let free = may_use a.usable.now in
    let e = chosen_outside k.kind k.laws a.net.now free a.from a.to (sym c.if-not-two_places.ensures) in
    record { value = e; least = named_rightly k.kind k.laws a.net.now free a.from a.to _ e }

pub returns-in_err-best : goal.returns-in_err-best
returns-in_err-best g c =
    let k = g.C.Cost in
    let a = c.args in
    let free = may_use a.usable.now in
    let e = c.from_residual.ensures ∙ chosen_nothing k.kind k.laws a.net.now free a.from a.to (sym c.if-not-two_places.ensures) c.fill.new.self.cells.items c.fill.ensures (sym c.in_err-best.was ∙ c.aim.ensures) in
    record { value = e; least = named_rightly k.kind k.laws a.net.now free a.from a.to _ e }

pub walk_out-requires : goal.walk_out-requires
walk_out-requires g c =
    let k = g.C.Cost in
    let a = c.args in
    let b = c.in_ok-best.best in
    picked_few k.kind k.laws a.net.now (may_use a.usable.now) a.from a.to (sym c.if-not-two_places.ensures) c.fill.new.self.cells.items c.fill.ensures b.0 b.1 (sym c.in_ok-best.was ∙ c.aim.ensures)

pub returns : goal.returns
returns g c =
    let k = g.C.Cost in
    let a = c.args in
    let free = may_use a.usable.now in
    let b = c.in_ok-best.best in
    let e = ap Some c.walk_out.ensures ∙ chosen_walked k.kind k.laws a.net.now free a.from a.to (sym c.if-not-two_places.ensures) c.fill.new.self.cells.items c.fill.ensures b.0 b.1 (sym c.in_ok-best.was ∙ c.aim.ensures) in
    record { value = e; least = named_rightly k.kind k.laws a.net.now free a.from a.to _ e }
