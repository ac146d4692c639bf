-- When a network is made and a link is added.
--
--   WhyNotMade fits why     why a network is not made: outside the limits, or within them for want of memory
--   takes net l             the network takes one more link l: its ends are places, and there are fewer than 40 links
--   add_answer net l        what adding l answers
--   links_after net l       the links then
use Rattle.std.specs.Prelude.{◌≡◌, Bool, true, false, if◌then◌else◌, ◌&&◌, List, [], ◌∷◌, ◌++◌, Ok, Err, vec_items, vec_len, Result, nat_le, nat_lt}
use Rattle.network.specs.declared.link.Link.{Link}
use Rattle.network.specs.declared.network.Network.{Network}
use Rattle.network.specs.declared.refusal.NetworkRefusal.{NetworkRefusal}
use Rattle.network.specs.declared.refusal.NetworkRefusal.TheVariants.{BadNetwork, BadLink}
use Rattle.network.specs.declared.refusal.NotMade.{NotMade}
use Rattle.network.specs.declared.refusal.NotMade.TheVariants.{Refused, NoMemory}

abbrev pub WhyNotMade : Bool → NotMade → Type 0
WhyNotMade fits (Refused why) = (fits ≡ false) × (why ≡ BadNetwork)
WhyNotMade fits NoMemory = fits ≡ true

abbrev pub takes : Network → Link → Bool
takes net l = (nat_le l.one net.places && nat_le l.two net.places) && nat_lt (vec_len net.links) 40

abbrev pub add_answer : Network → Link → Result Unit NetworkRefusal
add_answer net l = if takes net l then Ok tt else Err BadLink

abbrev pub links_after : Network → Link → List Link
links_after net l = if takes net l then vec_items net.links ++ l ∷ [] else vec_items net.links
