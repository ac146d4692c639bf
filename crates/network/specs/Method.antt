-- How the path is found: a table of least costs, then a walk that takes the first link that fits.
--
--   better a x y            the lesser of two costs that may be absent, by the order a
--   least_below a f n       the least of f 0 to f (n - 1)
--   offer g ahead v i       the cost of link i from v joined with what is ahead of where it leads
--   table g t j v           the least cost of exactly j links from v to t
--   pick_more a b j o       b, or j links for the cost o where that is less
--   picks a rows s m        the fewest links that reach the least cost of 1 to m links from s, and that cost
--   first_below p n         the first number below n of which p holds
--   fit g bound ahead v paid i    link i leads on from v, and what was paid, it and what is ahead stay within the bound
--   greedy g bound rows j v paid  j links from v, each the first that fits
--   cell_at cells j v       the cell of row j at place v, in rows of 33
--   Relaxed g old new j i   row j + 1 is offered link i, with row j ahead; rows up to j are as they were
--   NextRow g old new j     row j + 1 has the least of what all links offer, with row j ahead; rows up to j are as they were
--   Tabled g t cells m      the cells of the rows up to m are those of the table
use Rattle.std.specs.Prelude.{◌≡◌, ℕ, zero, suc, ◌+◌, ◌*◌, ◌<◌, ◌≤◌, Bool, false, if◌then◌else◌, List, [], ◌∷◌, Some, None, Option, ◌==◌, slice_index_or}
use Rattle.network.specs.Paths.{when_there, Ground}

abbrev pub better : {C : Type 0} → (C → C → Bool) → Option C → Option C → Option C
better at_most None y = y
better at_most (Some x) None = Some x
better at_most (Some x) (Some y) = if at_most x y then Some x else Some y

abbrev pub least_below : {C : Type 0} → (C → C → Bool) → (ℕ → Option C) → ℕ → Option C
least_below at_most f zero = None
least_below at_most f (suc n) = better at_most (least_below at_most f n) (f n)

-- the cost c joined with what is ahead
abbrev pub extended : {C : Type 0} → (C → C → C) → C → Option C → Option C
extended joined c ahead = when_there ahead None (λ d. Some (joined c d))

abbrev pub offer : {C : Type 0} → Ground C → (ℕ → Option C) → ℕ → ℕ → Option C
offer g ahead v i = when_there (g.hop v i) None (λ w. extended g.kind.joined (g.price i) (ahead w))

abbrev pub table : {C : Type 0} → Ground C → ℕ → ℕ → ℕ → Option C
table g t zero v = if v == t then Some g.kind.none else None
table g t (suc j) v = least_below g.kind.at_most (offer g (table g t j) v) g.numbers

abbrev pub pick_more : {C : Type 0} → (C → C → Bool) → Option (ℕ × C) → ℕ → Option C → Option (ℕ × C)
pick_more at_most b j None = b
pick_more at_most None j (Some c) = Some (j, c)
pick_more at_most (Some b) j (Some c) = if at_most b.1 c then Some b else Some (j, c)

abbrev pub picks : {C : Type 0} → (C → C → Bool) → (ℕ → ℕ → Option C) → ℕ → ℕ → Option (ℕ × C)
picks at_most rows s zero = None
picks at_most rows s (suc m) = pick_more at_most (picks at_most rows s m) (m + 1) (rows (m + 1) s)

abbrev pub first_below : (ℕ → Bool) → ℕ → Option ℕ
first_below p zero = None
first_below p (suc n) = when_there (first_below p n) (if p n then Some n else None) (λ k. Some k)

abbrev pub fit : {C : Type 0} → Ground C → C → (ℕ → Option C) → ℕ → C → ℕ → Bool
fit g bound ahead v paid i =
    when_there (g.hop v i) false (λ w. when_there (ahead w) false (λ c. g.kind.at_most (g.kind.joined (g.kind.joined paid (g.price i)) c) bound))

abbrev pub greedy : {C : Type 0} → Ground C → C → (ℕ → ℕ → Option C) → ℕ → ℕ → C → List ℕ
greedy g bound rows zero v paid = []
greedy g bound rows (suc j) v paid =
    when_there (first_below (fit g bound (rows j) v paid) g.numbers) []
    (λ i. i ∷ greedy g bound rows j (when_there (g.hop v i) v (λ w. w)) (g.kind.joined paid (g.price i)))

abbrev pub cell_at : {C : Type 0} → List (Option C) → ℕ → ℕ → Option C
cell_at cells j v = slice_index_or cells (j * 33 + v) None

pub record Relaxed {C : Type 0} (g : Ground C) (old new : List (Option C)) (j i : ℕ) : Type 0 where
  pub here : (v : ℕ) → v < 33 → cell_at new (j + 1) v ≡ better g.kind.at_most (cell_at old (j + 1) v) (offer g (cell_at old j) v i)
  pub below : (k v : ℕ) → k ≤ j → v < 33 → cell_at new k v ≡ cell_at old k v

pub record NextRow {C : Type 0} (g : Ground C) (old new : List (Option C)) (j : ℕ) : Type 0 where
  pub here : (v : ℕ) → v < 33 → cell_at new (j + 1) v ≡ least_below g.kind.at_most (offer g (cell_at old j) v) g.numbers
  pub below : (k v : ℕ) → k ≤ j → v < 33 → cell_at new k v ≡ cell_at old k v

abbrev pub Tabled : {C : Type 0} → Ground C → ℕ → List (Option C) → ℕ → Type 0
Tabled g t cells m = (j v : ℕ) → j ≤ m → v < 33 → cell_at cells j v ≡ table g t j v
