use Rattle.std.proofs.Common.{Some, None, sym}
use Rattle.network.specs.Grounds.{ground_of}
use Rattle.network.specs.Method.{cell_at}
use Rattle.network.proofs.Steps.{fit_by}
use Rattle.network.proofs.search.Scratch.fits.Goals as goal

pub returns-in_default : goal.returns-in_default
returns-in_default g c =
    let a = c.args in
    sym (fit_by (ground_of g.C.Cost.kind a.over) a.bound (cell_at a.self.now.cells.items a.left) a.v a.paid a.number None c.in_default.ensures)

pub returns : goal.returns
returns g c =
    let a = c.args in
    rw (fit_by (ground_of g.C.Cost.kind a.over) a.bound (cell_at a.self.now.cells.items a.left) a.v a.paid a.number (Some c.in-Some.c) c.in-Some.ensures) cc
