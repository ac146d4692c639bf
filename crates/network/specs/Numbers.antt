-- The number of each refusal.
--
--   network_number why    the refusal to make a network or to add a link
use Rattle.std.specs.Prelude.{ℕ}
use Rattle.network.specs.declared.refusal.NetworkRefusal.{NetworkRefusal}
use Rattle.network.specs.declared.refusal.NetworkRefusal.TheVariants.{BadNetwork, BadLink}

abbrev pub network_number : NetworkRefusal → ℕ
network_number BadNetwork = 14
network_number BadLink = 15
