use Rattle.std.proofs.Common.{ap, ◌∙◌}
use Rattle.network.specs.Paths.{crossing, is_path}
use Rattle.ways.specs.Ways.{every_link}
use Rattle.ways.proofs.Copied.{route_refused, route_named}
use Rattle.ways.proofs.route.named_path.Goals as goal

pub returns-in_err-path : goal.returns-in_err-path
returns-in_err-path c =
    let a = c.args in
    c.from_residual.ensures ∙ route_refused a.net.now a.from a.to a.route (c.in_err-path.ensures a.net.now a.from a.to)

pub returns : goal.returns
returns c =
    let a = c.args in
    c.then_some.ensures ∙ route_named a.net.now a.from a.to a.route c.in_ok-path.path c.in_ok-path.ensures c.is_path.result (c.is_path.ensures ∙ ap (is_path (crossing a.net.now every_link) a.net.now.hops a.from a.to) c.links.ensures)
