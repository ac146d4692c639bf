use Rattle.network.specs.Method.{cell_at}
use Rattle.network.proofs.Picks.{picks_more}
use Rattle.network.proofs.search.Scratch.aim.Goals as goal

pub loop-j-preserved : goal.loop-j-preserved
loop-j-preserved g c =
    picks_more g.C.Cost.kind.at_most (cell_at c.args.self.now.cells.items) c.args.from c.loop-j.j c.loop-j.best c.nearer-best.result c.cell.result c.loop-j.invariant c.cell.ensures c.nearer-best.ensures
