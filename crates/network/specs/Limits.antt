-- The limits of a network and of a link.
--
--   network_fits places hops           2 to 32 places, and a hop limit of 1 to 8
--   link_fits one two metres loss      ends from 1 to 32 and different, 1 to 999,999 metres, a loss of 0 to 9,999
--   is_place places v                  v is one of the places 1 to places
--   two_places places v w              v and w are two different places
use Rattle.std.specs.Prelude.{ℕ, Bool, not, ◌&&◌, ◌==◌, nat_le}

abbrev pub is_place : ℕ → ℕ → Bool
is_place places v = nat_le 1 v && nat_le v places

abbrev pub two_places : ℕ → ℕ → ℕ → Bool
two_places places v w = (is_place places v && is_place places w) && not (v == w)

abbrev pub network_fits : ℕ → ℕ → Bool
network_fits places hops = (nat_le 2 places && nat_le places 32) && (nat_le 1 hops && nat_le hops 8)

abbrev pub link_fits : ℕ → ℕ → ℕ → ℕ → Bool
link_fits one two metres loss =
    two_places 32 one two && ((nat_le 1 metres && nat_le metres 999999) && nat_le loss 9999)
