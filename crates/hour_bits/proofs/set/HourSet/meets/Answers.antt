use Rattle.std.proofs.Common.{◌≡◌, Bool, true, false, not, refl, ap, ◌∙◌}
use Rattle.calendar.proofs.Sums.{any_cong}
use Rattle.hour_bits.proofs.set.HourSet.meets.Goals as goal

pub returns : goal.returns
returns c = ap not c.is_empty.ensures ∙ twice _ ∙ any_cong 168 _ _ c.both.ensures
  where
    twice : (b : Bool) → not (not b) ≡ b
    twice true = refl
    twice false = refl
