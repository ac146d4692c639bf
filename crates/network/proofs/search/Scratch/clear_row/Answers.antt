use Rattle.std.proofs.Common.{◌+◌, ◌*◌, None, refl, arith}
use Rattle.std.proofs.lemmas.List.{get_or_past}
use Rattle.network.proofs.Rows.{cleared_more}
use Rattle.network.proofs.search.Scratch.clear_row.Goals as goal

pub returns-then-j-gt8 : goal.returns-then-j-gt8
returns-then-j-gt8 g c =
    let s = c.args.self.now in
    record { here = λ v h. get_or_past s.cells.items (c.args.j * 33 + v) None (omega (arith, s.cells.ok.0, s.full)); below = λ k v a h. refl }

pub loop-v-preserved : goal.loop-v-preserved
loop-v-preserved g c =
    cleared_more c.args.self.now.cells.items c.loop-v.self.cells.items _ c.args.j c.loop-v.v (omega arith) refl c.loop-v.invariant.0 c.loop-v.invariant.1
