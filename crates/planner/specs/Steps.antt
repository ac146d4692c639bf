-- What is done with each run of an order.
--
--   Steps post meaning does    a call with a plant and a run, whose result `post` says, leaves the plant that `does` says
use Rattle.std.specs.Prelude.{◌≡◌}
use Rattle.std.specs.Borrow.{MutBor}
use Rattle.calendar.specs.Meaning.{Meaning}
use Rattle.calendar.specs.declared.run.Run.{Run}

abbrev pub Steps : {P R : Type 0} → (MutBor P → Run → R → MutBor P → Type 0) → (P → Meaning) → (Meaning → Run → Meaning) → Type 0
Steps {P} {R} post meaning does = (old new : MutBor P) (run : Run) (r : R) → post old run r new → meaning new.now ≡ does (meaning old.now) run
