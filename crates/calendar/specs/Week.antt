-- The repeating week, and tests and sums over the numbers below n.
--
--   later f j        the hour j hours after hour f, the week turning
--   covers f n h     a run of n hours from hour f covers hour h
--   shares f n g k   a run of n hours from f and one of k hours from g share an hour
--   until f n h      how many hours it is from hour h on to one that n hours from f cover
--   any n p          p holds of some k below n
--   total n f        f 0 + .. + f (n - 1)
--   least n p        the least k below n of which p holds; n where there is none
use Rattle.std.specs.Prelude.{ℕ, zero, suc, ◌+◌, ◌%◌, Bool, false, cond, ◌&&◌, ◌||◌, nat_eq, nat_lt}

-- p holds of some k below n
unfoldable pub any : ℕ → (ℕ → Bool) → Bool
any zero p = false
any (suc n) p = p n || any n p

-- f 0 + .. + f (n - 1)
unfoldable pub total : ℕ → (ℕ → ℕ) → ℕ
total zero f = 0
total (suc n) f = f n + total n f

-- the least k below n of which p holds; n where there is none
unfoldable pub least : ℕ → (ℕ → Bool) → ℕ
least zero p = 0
least (suc n) p = cond (nat_lt (least n p) n) (least n p) (cond (p n) n (suc n))

-- the hour j hours after hour f
abbrev pub later : ℕ → ℕ → ℕ
later f j = (f + j) % 168

-- the hours (f + j) mod 168, for j from 0 to n - 1, have h among them
unfoldable pub covers : ℕ → ℕ → ℕ → Bool
covers f n h = any n (λ j. nat_eq (later f j) h)

-- some hour of the week is covered by both
unfoldable pub shares : ℕ → ℕ → ℕ → ℕ → Bool
shares f n g k = any 168 (λ h. covers f n h && covers g k h)

-- how many hours it is from hour h on to one that a run of n hours from f covers; 168 where it covers none
unfoldable pub until : ℕ → ℕ → ℕ → ℕ
until f n h = least 168 (λ j. covers f n (later h j))
