use Rattle.std.proofs.Common.{true, sym, refl, ◌∙◌}
use Rattle.network.proofs.Crossings.{crossing_open, crossing_absent}
use Rattle.network.proofs.network.Network.leads.Goals as goal

pub returns-in_err-link : goal.returns-in_err-link
returns-in_err-link c = c.from_residual.ensures ∙ sym (crossing_absent c.args.self.now (λ _. true) c.args.number (sym c.link.ensures ∙ c.in_err-link.was) c.args.v)

pub returns : goal.returns
returns c = c.far_end.ensures ∙ sym (crossing_open c.args.self.now (λ _. true) c.args.number c.in_ok-link.field-0 (sym c.link.ensures ∙ c.in_ok-link.was) refl c.args.v)
