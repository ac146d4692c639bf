-- What ties the plant now to the plant at the start and the orders that stand. Every part is about a sum over the
-- orders, so that putting one in, taking one out and moving one are the same three steps for each.
use Rattle.std.proofs.Common.{◌≡◌, ℕ, ◌+◌, ◌<◌, ◌≤◌, Bool, true, false, cond, not, ◌&&◌, ◌||◌, eqb, leb, List, length, vec_len, sum_by}
use Rattle.calendar.specs.Week.{any, later}
use Rattle.calendar.specs.Meaning.{Meaning, is_held}
use Rattle.network.specs.Paths.{crossing, is_path}
use Rattle.network.specs.declared.network.Network.{Network}
use Rattle.ways.specs.Hours.{hours_fit, block_fits}
use Rattle.ways.specs.Ways.{every_link}
use Rattle.orders.specs.Calls.{width_fits}
use Rattle.orders.specs.Runs.{link_of}
use Rattle.orders.specs.Standing.{Standing, num, takes, in_cell}
use Rattle.orders.proofs.Masks.{with_mask}

-- the hours of the order's run that starts at the cell
unfoldable pub starting : Standing → ℕ → ℕ → ℕ → ℕ
starting e l c f = cond (takes e l c && eqb f e.order.first) e.order.hours 0

-- the plant with n hours for each of the order's runs
abbrev pub with_order : Meaning → Standing → ℕ → Meaning
with_order m e n = with_mask m (takes e) e.order.first n

-- some cell of the order passes the test
unfoldable pub blocked : (ℕ → ℕ → ℕ → Bool) → Standing → Bool
blocked p e = any (length e.path) (λ i. any e.order.width (λ w. any e.order.hours (λ j. p (link_of e i) (e.channel + w) (later e.order.first j))))

-- the cell is not free; those of which `own` holds count as free
abbrev pub taken_but : Meaning → (ℕ → ℕ → ℕ → Bool) → ℕ → ℕ → ℕ → Bool
taken_but m own l c h = m.closed l c h || (is_held m l c h && not (own l c h))

-- what the checks of an order leave of it, on a plant with L links and C channels
unfoldable pub fit : Network → ℕ → ℕ → Standing → Bool
fit net L C e =
    (leb (vec_len net.links) L && (width_fits e.order.width && hours_fit e.order))
    && (is_path (crossing net every_link) net.hops e.order.from e.order.to e.path && block_fits C e.channel e.order.width)

-- the same in parts, with what a path says of its links
pub record Fit (net : Network) (L C : ℕ) (e : Standing) : Type 0 where
  pub wide : 1 ≤ e.order.width
  pub narrow : e.order.width ≤ 4
  pub hour : e.order.first < 168
  pub some : 1 ≤ e.order.hours
  pub week : e.order.hours ≤ 168
  pub path : is_path (crossing net every_link) net.hops e.order.from e.order.to e.path ≡ true
  pub known : (i : ℕ) → i < length e.path → (1 ≤ link_of e i) × (link_of e i ≤ L)
  pub once : (i : ℕ) → i < length e.path → any i (λ j. eqb (link_of e j) (link_of e i)) ≡ false
  pub low : 1 ≤ e.channel
  pub high : e.channel + e.order.width ≤ C + 1

pub record Tied (net : Network) (s m : Meaning) (es : List Standing) : Type 0 where
  pub links : m.links ≡ s.links
  pub channels : m.channels ≡ s.channels
  pub limit : m.limit ≡ s.limit
  pub closed : m.closed ≡ s.closed
  pub fits : sum_by (λ e. num (not (fit net s.links s.channels e))) es ≡ 0
  pub live : (l c f : ℕ) → m.live l c f ≡ s.live l c f + sum_by (λ e. starting e l c f) es
  pub held : (l c h : ℕ) → num (is_held m l c h) ≡ num (is_held s l c h) + sum_by (λ e. num (in_cell e l c h)) es
  pub shut : (l c h : ℕ) → s.closed l c h ≡ true → sum_by (λ e. num (in_cell e l c h)) es ≡ 0
