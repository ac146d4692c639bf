use Rattle.std.proofs.Common.{sym, ◌∙◌}
use Rattle.network.specs.Flags.{may_use}
use Rattle.network.proofs.Agrees.{chosen_agrees}
use Rattle.ways.specs.Sought.{sought}
use Rattle.ways.specs.Ways.{open_links}
use Rattle.ways.proofs.Fits.{path_in, path_out}
use Rattle.ways.proofs.search.Search.path_at.Goals as goal

pub returns-then-not-block_fits : goal.returns-then-not-block_fits
returns-then-not-block_fits g c = sym (path_out (sought g.C.Cost.kind c.args.self.now) c.args.a (sym c.if-not-block_fits.ensures))

pub returns : goal.returns
returns g c =
    let s = c.args.self.now in
    let w = sought g.C.Cost.kind s in
    c.chosen_path.ensures.value
    ∙ chosen_agrees s.net.now (may_use c.open_links-open.result) (open_links w c.args.a) c.open_links-open.ensures g.C.Cost.kind s.order.from s.order.to
    ∙ sym (path_in w c.args.a (sym c.if-not-block_fits.ensures))
