-- The number of each refusal, and of each answer.
--
--   refusal_number why    a plant's refusal to hold or release
--   answer_number r       what hold or release answered: 0 where it was done
--   making_number why     the refusal to make a plant or a layer's table
use Rattle.std.specs.Prelude.{ℕ, Ok, Err, Result}
use Rattle.calendar.specs.declared.refusal.PlantRefusal.{PlantRefusal}
use Rattle.calendar.specs.declared.refusal.PlantRefusal.TheVariants.{OutOfRange, CellClosed, CellHeld, NoRoom, NoSuchRun}
use Rattle.calendar.specs.declared.refusal.MakingRefusal.{MakingRefusal}
use Rattle.calendar.specs.declared.refusal.MakingRefusal.TheVariants.{BadSizes, BadMemory, BadTable}

abbrev pub refusal_number : PlantRefusal → ℕ
refusal_number OutOfRange = 21
refusal_number CellClosed = 22
refusal_number CellHeld = 23
refusal_number NoRoom = 24
refusal_number NoSuchRun = 25

abbrev pub answer_number : Result Unit PlantRefusal → ℕ
answer_number (Ok _) = 0
answer_number (Err why) = refusal_number why

abbrev pub making_number : MakingRefusal → ℕ
making_number BadSizes = 11
making_number BadMemory = 12
making_number BadTable = 13
