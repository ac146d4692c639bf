use Rattle.std.proofs.Common.{◌≡◌, Bool, true, false, not, ◌&&◌, refl, ap, ◌∙◌}
use Rattle.calendar.proofs.Sums.{any_cong}
use Rattle.hour_bits.specs.Bits.{bits}
use Rattle.hour_bits.proofs.set.HourSet.is_superset.Goals as goal

pub returns : goal.returns
returns c = c.is_empty.ensures ∙ ap not (any_cong 168 _ _ (λ h l. c.without.ensures h l ∙ and_comm (bits c.args.other h) (not (bits c.args.self h))))
  where
    and_comm : (x y : Bool) → (x && y) ≡ (y && x)
    and_comm true true = refl
    and_comm true false = refl
    and_comm false true = refl
    and_comm false false = refl
