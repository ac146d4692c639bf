use Rattle.std.proofs.Common.{◌+◌, ◌*◌}
use Rattle.network_tests.proofs.plain_search.+best_from.Given as goal

abbrev pub decreases-Search::best_from : goal.decreases-Search::best_from
decreases-Search::best_from g l = 2 * l.left + 1

abbrev pub decreases-filter_map+2 : goal.decreases-filter_map+2
decreases-filter_map+2 g l = 2 * l.left
