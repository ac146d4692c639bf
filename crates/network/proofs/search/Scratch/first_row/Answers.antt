use Rattle.std.proofs.Common.{◌+◌, ◌*◌, set, Some, sym, ap, ◌∙◌}
use Rattle.network.proofs.Rows.{row_none}
use Rattle.network.proofs.search.Scratch.first_row.Goals as goal

pub returns : goal.returns
returns g c =
    let s = c.clear_row.new.self in
    row_none g.C.Cost.kind.none s.cells.items c.put.new.self.cells.items c.args.to (sym s.cells.ok.0 ∙ s.full) (c.put.ensures ∙ ap (λ x. set s.cells.items (0 * 33 + c.args.to) (Some x)) c.zero.ensures) c.clear_row.ensures.here
