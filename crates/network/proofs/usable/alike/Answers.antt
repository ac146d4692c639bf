use Rattle.network.proofs.Flagged.{all_alike}
use Rattle.network.proofs.usable.alike.Goals as goal

pub returns : goal.returns
returns c = all_alike c.args.flag
