-- Which links may be used.
--
--   is_number i      i is a number that a link can have: 1 to 40
--   may_use u i      link i may be used, after u; a number that no link can have may not
use Rattle.std.specs.Prelude.{ℕ, Bool, false, if◌then◌else◌, ◌&&◌, nat_le, slice_index_or}
use Rattle.network.specs.declared.usable.Usable.{Usable}

abbrev pub is_number : ℕ → Bool
is_number i = nat_le 1 i && nat_le i 40

abbrev pub may_use : Usable → ℕ → Bool
may_use u i = if is_number i then slice_index_or u.open i false else false
