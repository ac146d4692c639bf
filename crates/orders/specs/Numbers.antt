-- The number of each refusal, and the cell that it names.
--
--   refusal_number why   the number that the listing prints
--   refusal_place why    link, channel and hour of the first cell that is not free; zeros for every other refusal
use Rattle.std.specs.Prelude.{ℕ}
use Rattle.orders.specs.declared.refusal.Cell.{Cell}
use Rattle.orders.specs.declared.refusal.Refusal.{Refusal}
use Rattle.orders.specs.declared.refusal.Refusal.TheVariants.{FewerLinks, BadNumber, BadEnds, BadWidth, BadHours, StandsAlready, BookFull, NoWay, NotAPath, BadBlock, CellClosed, CellHeld, NoRoom, NotStanding}

abbrev pub refusal_number : Refusal → ℕ
refusal_number FewerLinks = 31
refusal_number BadNumber = 32
refusal_number BadEnds = 33
refusal_number BadWidth = 34
refusal_number BadHours = 35
refusal_number StandsAlready = 36
refusal_number BookFull = 37
refusal_number NoWay = 38
refusal_number NotAPath = 41
refusal_number BadBlock = 42
refusal_number (CellClosed _) = 43
refusal_number (CellHeld _) = 44
refusal_number NoRoom = 39
refusal_number NotStanding = 45

abbrev pub nowhere : Cell
nowhere = record { link = 0; channel = 0; hour = 0 }

abbrev pub refusal_place : Refusal → Cell
refusal_place (CellClosed x) = x
refusal_place (CellHeld x) = x
refusal_place FewerLinks = nowhere
refusal_place BadNumber = nowhere
refusal_place BadEnds = nowhere
refusal_place BadWidth = nowhere
refusal_place BadHours = nowhere
refusal_place StandsAlready = nowhere
refusal_place BookFull = nowhere
refusal_place NoWay = nowhere
refusal_place NotAPath = nowhere
refusal_place BadBlock = nowhere
refusal_place NoRoom = nowhere
refusal_place NotStanding = nowhere
