use Rattle.std.proofs.Common.{◌≡◌, ℕ, Option, Some, None, refl, ◌∙◌, arith, rules, tests}
use Rattle.std.specs.Option.{option_map}
use Rattle.std.proofs.lemmas.Iterator.{YieldsList-from_range, YieldsList-from_map}
use Rattle.std.proofs.lemmas.Iterator.Consumers.{YieldsList-at}
use Rattle.std.proofs.lemmas.Iterator.Search.{find_from_yields_List}
use Rattle.calendar.specs.Week.{later}
use Rattle.hour_bits.specs.Bits.{bits}
use Rattle.hour_bits.proofs.Firsts.{found}
use Rattle.hour_bits.proofs.set.HourSet.first_in.Goals as goal

pub returns : goal.returns
returns c =
    same c.find.result
    ∙ find_from_yields_List (bits c.args.self) _ _ c.find.result c.find.ensures.ran
    (YieldsList-from_map _ (later c.args.first) (YieldsList-at c.map.ensures.source (YieldsList-from_range 0 c.args.hours c.args.hours (cc) (omega arith))) c.map.ensures.closure (λ x r q k. search (rules, tests)))
    (λ x b q k. search (rules, tests))
    ∙ found (bits c.args.self) c.args.first c.args.hours
  where
    same : (o : Option ℕ) → o ≡ option_map {T = ℕ} {U = ℕ} (λ x. x) o
    same (Some x) = refl
    same None = refl
