use Rattle.std.specs.Prelude.{ℕ, ◌+◌, ◌*◌, ◌/◌, ◌%◌, ◌^◌, if◌then◌else◌, nat_eq}

-- the state after a roll
abbrev pub next_state : ℕ → ℕ
next_state s = (s * 6364136223846793005 + 1442695040888963407) % 2 ^ 64

-- the number that a state gives for so many sides
abbrev pub drawn : ℕ → ℕ → ℕ
drawn s sides = if nat_eq sides 0 then 0 else (s / 2 ^ 33) % sides
