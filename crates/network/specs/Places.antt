-- Links by number.
--
--   link_at links i     the link of number i, counted from 1
use Rattle.std.specs.Prelude.{ℕ, zero, suc, List, None, Option}
use Rattle.std.specs.List.{slice_get}
use Rattle.network.specs.declared.link.Link.{Link}

abbrev pub link_at : List Link → ℕ → Option Link
link_at links zero = None
link_at links (suc i) = slice_get links i
