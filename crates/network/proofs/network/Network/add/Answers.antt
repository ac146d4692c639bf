use Rattle.std.proofs.Common.{arith}
use Rattle.std.proofs.lemmas.List.Elements.{AllWithin-push}
use Rattle.network.specs.Ends.{Inside}
use Rattle.network.proofs.network.Network.add.Goals as goal

pub invariant_of-self : goal.invariant_of-self
invariant_of-self c =
    let n = c.args.self.now in
    let p = c.push_reserved.ensures in
    record { sizes = n.sizes; few = omega (arith, p.len); room = omega (arith, p.capacity); within = rw p.items (AllWithin-push (Inside n.places) _ _ n.within (omega arith)) }
