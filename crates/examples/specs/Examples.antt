-- Worked examples of the definitions, as one table: what a definition gives beside what it should give.
-- The checker computes the left column and compares.
--
--   examples         the table
--   ExamplesStand    the two columns are the same
use Rattle.std.specs.Prelude.{ℕ, Bool, not, cond, List, [], ◌∷◌, ◌≡◌, eqb}
use Rattle.calendar.specs.Week.{any, total, later, covers, shares}
use Rattle.calendar.specs.Layers.{moved}
use Rattle.network.specs.Kinds.{by_length, stopped}
use Rattle.ways.specs.Hours.{block_fits}

pub record Example : Type 0 where
  pub gives : ℕ
  pub should_give : ℕ

abbrev yes_no : Bool → ℕ
yes_no b = cond b 1 0

-- how many of the n hours from hour f on are hour h
abbrev times : ℕ → ℕ → ℕ → ℕ
times f n h = total n (λ j. yes_no (eqb (later f j) h))

-- each hour of the week is one of them once
abbrev each_once : ℕ → ℕ → Bool
each_once f n = not (any 168 (λ h. not (eqb (times f n h) 1)))

abbrev pub examples : List Example
examples =
    -- 4 hours from hour 166 cover hour 1, and not hour 2
    record { gives = yes_no (covers 166 4 1); should_give = 1 }
    ∷ record { gives = yes_no (covers 166 4 2); should_give = 0 }
    -- 168 hours from hour 5 cover each hour once
    ∷ record { gives = yes_no (each_once 5 168); should_give = 1 }
    -- 5 hours from 10 and 3 hours from 15 share no hour
    ∷ record { gives = yes_no (shares 10 5 15 3); should_give = 0 }
    -- 6 hours from 10 and 3 hours from 15 share an hour, and it is hour 15
    ∷ record { gives = yes_no (shares 10 6 15 3); should_give = 1 }
    ∷ record { gives = total 168 (λ h. cond (covers 10 6 h) (cond (covers 15 3 h) h 0) 0); should_give = 15 }
    -- a clock of 162 takes hour 6 to hour 0
    ∷ record { gives = (moved 162 (record { link = 1; channel = 1; first = 6; hours = 1 })).first; should_give = 0 }
    -- a length of 4,294,967,295 metres joined with 1 stays
    ∷ record { gives = (by_length.joined (stopped 4294967295) (stopped 1)).value; should_give = 4294967295 }
    -- the block of width 2 from channel 3 up fits 4 channels, and the one from channel 4 up does not
    ∷ record { gives = yes_no (block_fits 4 3 2); should_give = 1 }
    ∷ record { gives = yes_no (block_fits 4 4 2); should_give = 0 }
    ∷ []

abbrev given : List Example → List ℕ
given [] = []
given (e ∷ es) = e.gives ∷ given es

abbrev wanted : List Example → List ℕ
wanted [] = []
wanted (e ∷ es) = e.should_give ∷ wanted es

abbrev pub ExamplesStand : Type 0
ExamplesStand = given examples ≡ wanted examples
