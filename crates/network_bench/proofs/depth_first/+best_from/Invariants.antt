use Rattle.network_bench.proofs.depth_first.+best_from.Given as goal

abbrev pub decreases-best-from : goal.decreases-best-from
decreases-best-from g l = l.left
