-- What a making leaves and answers.
use Rattle.std.proofs.Common.{◌≡◌, ℕ, ◌*◌, ◌<◌, ◌≤◌, true, false, not, ◌&&◌, leb, List, length, get_or, leb-true}
use Rattle.std.proofs.lemmas.Bool.{and_parts}
use Rattle.calendar.specs.Meaning.{within}
use Rattle.calendar.specs.Rows.{Kept, no_run, tabled}
use Rattle.calendar.specs.Making.{open_plant, sizes_fit, table_number, map_number}
use Rattle.calendar.specs.declared.run.Run.{Run}
use Rattle.calendar.proofs.Tabled.{dead_rows, empty_kept}

pub empty_open : (rows : List Run) (ls cs n : ℕ) → length rows ≡ n → ((j : ℕ) → j < length rows → (get_or rows j no_run).hours ≡ 0) → tabled rows ls cs ≡ open_plant ls cs n
unfolding open_plant
empty_open rows ls cs n e none = λ i. record { links = ls; channels = cs; limit = e i; closed = λ x y h. not (within ls cs x y h); live = λ l c f. dead_rows rows none l c f i }

pub sizes_parts : (l c : ℕ) → sizes_fit l c ≡ true → (1 ≤ l) × (l ≤ 40) × (1 ≤ c) × (c ≤ 16)
sizes_parts l c h =
    let p = and_parts (leb 1 l && leb l 40) (leb 1 c && leb c 16) h in
    let a = and_parts (leb 1 l) (leb l 40) p.0 in
    let b = and_parts (leb 1 c) (leb c 16) p.1 in
    (leb-true 1 l a.0, leb-true l 40 a.1, leb-true 1 c b.0, leb-true c 16 b.1)

pub fit_kept : (rows : List Run) (ls cs : ℕ) → sizes_fit ls cs ≡ true → ((j : ℕ) → j < length rows → (get_or rows j no_run).hours ≡ 0) → Kept rows ls cs
fit_kept rows ls cs h none = let p = sizes_parts ls cs h in empty_kept rows ls cs p.0 p.1 p.2 p.3 none

module _ (l c n : ℕ) where
  pub table_sizes : sizes_fit l c ≡ false → table_number l c n ≡ 11
  unfolding table_number
  table_sizes h = rw h

  pub table_memory : sizes_fit l c ≡ true → leb n 4096 ≡ false → table_number l c n ≡ 12
  unfolding table_number
  table_memory h q = rw (h, q)

  pub table_made : sizes_fit l c ≡ true → leb n 4096 ≡ true → table_number l c n ≡ 0
  unfolding table_number
  table_made h q = rw (h, q)

  pub map_sizes : sizes_fit l c ≡ false → map_number l c n ≡ 11
  unfolding map_number
  map_sizes h = rw h

  pub map_memory : sizes_fit l c ≡ true → leb (l * c * 6) n ≡ false → map_number l c n ≡ 12
  unfolding map_number
  map_memory h q = rw (h, q)

  pub map_made : sizes_fit l c ≡ true → leb (l * c * 6) n ≡ true → map_number l c n ≡ 0
  unfolding map_number
  map_made h q = rw (h, q)
