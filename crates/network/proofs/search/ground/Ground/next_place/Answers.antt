use Rattle.std.proofs.Common.{sym, ◌∙◌}
use Rattle.network.specs.Flags.{may_use}
use Rattle.network.proofs.Crossings.{crossing_free, crossing_shut}
use Rattle.network.proofs.search.ground.Ground.next_place.Goals as goal

pub returns-then-not-is_usable : goal.returns-then-not-is_usable
returns-then-not-is_usable c = let over = c.args.self in sym (crossing_shut over.net.now (may_use over.usable.now) c.args.number (sym c.if-not-is_usable.ensures) c.args.v)

pub returns : goal.returns
returns c = let over = c.args.self in c.leads.ensures ∙ sym (crossing_free over.net.now (may_use over.usable.now) c.args.number (sym c.if-not-is_usable.ensures) c.args.v)
