use Rattle.std.proofs.Common.{sym, ◌∙◌}
use Rattle.std.proofs.lemmas.Bool.{not-true}
use Rattle.hour_bits.proofs.Firsts.{set_missed}
use Rattle.hour_bits.specs.Bits.{bits}
use Rattle.hour_bits.proofs.row.LiveRuns.first_held.Goals as goal

pub returns-then-is_free : goal.returns-then-is_free
returns-then-is_free c = set_missed (bits c.args.self.held) c.args.run.first c.args.run.hours (not-true _ (sym c.is_free.ensures ∙ c.if-is_free.true))
