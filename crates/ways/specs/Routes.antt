-- A path that a customer names.
--
--   route_numbers r          the link numbers that a route names
--   is_route net from to r   they are as many as the route says, and a path from one place to the other over the
--                            network's links
--   Copied r p               p is the list of the route's numbers, and they are as many as the route says
use Rattle.std.specs.Prelude.{◌≡◌, ℕ, Bool, ◌&&◌, List, length, take, ◌==◌}
use Rattle.network.specs.Paths.{crossing, is_path}
use Rattle.network.specs.declared.network.Network.{Network}
use Rattle.ways.specs.Ways.{every_link}
use Rattle.ways.specs.declared.route.Route.{Route}

abbrev pub route_numbers : Route → List ℕ
route_numbers r = take r.count r.links

unfoldable pub is_route : Network → ℕ → ℕ → Route → Bool
is_route net from to r = length (route_numbers r) == r.count && is_path (crossing net every_link) net.hops from to (route_numbers r)

pub record Copied (r : Route) (p : List ℕ) : Type 0 where
  pub numbers : p ≡ route_numbers r
  pub all : length (route_numbers r) ≡ r.count
