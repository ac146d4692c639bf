-- What a network keeps of its links.
--
--   Inside places l         both ends of link l are among the places
--   AllInside places ls     so of every link
use Rattle.std.specs.Prelude.{ℕ, ◌≤◌, max, List, length}
use Rattle.std.specs.List.{AllWithin}
use Rattle.network.specs.declared.link.Link.{Link}

abbrev pub Inside : ℕ → Link → Type 0
Inside places l = max l.one l.two ≤ places

abbrev pub AllInside : ℕ → List Link → Type 0
AllInside places ls = AllWithin (Inside places) ls 0 (length ls)
