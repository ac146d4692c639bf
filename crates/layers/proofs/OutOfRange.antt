-- A run that is none of the plant's.
use Rattle.std.proofs.Common.{◌≡◌, false, sym}
use Rattle.calendar.specs.Meaning.{Meaning, proper}
use Rattle.calendar.specs.declared.run.Run.{Run}
use Rattle.calendar.proofs.Plants.{refused_hold, refused_release}
use Rattle.calendar.proofs.Takens.{taken_out}
use Rattle.layers.specs.Below.{OutOfRange}

pub out_of_range : (m : Meaning) (r : Run) → proper m r ≡ false → OutOfRange m r
out_of_range m r e =
    let h = refused_hold m r e in
    let l = refused_release m r e in
    record {
      held = sym h.answer;
      after_held = sym h.after;
      released = sym l.answer;
      after_released = sym l.after;
      taken = sym (taken_out m r e);
    }
