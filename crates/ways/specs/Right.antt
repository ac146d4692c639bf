-- That the way an order gets is the right one, in plain words.
--
--   AllowedWay w x       x is a way that the order could get: its hours are hours of the week, its block lies within the
--                        channels, its links are a path that may be used, and the block is free on each of them
--   Ahead fit w x y      x is chosen rather than y, or is y: the lowest first channel first, or the cheapest path first
--   ChosenWay fit w x    x is allowed, and is ahead of every allowed way
--   Right fit w o        o is the chosen way, or nothing where no way is allowed
--   WayIsRight k         what chosen_way names is right, over every network and every plant
use Rattle.std.specs.Prelude.{◌≡◌, ℕ, ◌≤◌, true, Option, MatchOption}
use Rattle.network.specs.Choice.{Before}
use Rattle.network.specs.Costs.{Kind}
use Rattle.network.specs.Paths.{crossing, ground, has, Allowed}
use Rattle.ways.specs.Hours.{hours_fit, block_fits, block_free}
use Rattle.ways.specs.Ways.{Wanted, every_link, path_cost, chosen_way}
use Rattle.ways.specs.declared.fit.Fit.{Fit}
use Rattle.ways.specs.declared.way.Way.{Way}
use Rattle.ways.specs.declared.fit.Fit.TheVariants.{First, Best}

pub record AllowedWay {C : Type 0} (w : Wanted C) (x : Way) : Type 0 where
  pub week : hours_fit w.order ≡ true
  -- the block starts at one of the channels, and ends at one
  pub known : x.channel ≤ w.channels
  pub fits : block_fits w.channels x.channel w.order.width ≡ true
  pub path : Allowed (crossing w.net w.may_use) w.net.hops w.order.from w.order.to x.path
  pub free : (l : ℕ) → has l x.path ≡ true → block_free w.free w.order x.channel l ≡ true

-- the cost of a way is that of its path
abbrev pub way_cost : {C : Type 0} → Wanted C → Way → C
way_cost w x = path_cost w.kind w.net x.path

-- at one first channel, the path of x is chosen rather than that of y
abbrev pub SameBlock : {C : Type 0} → Wanted C → Way → Way → Type 0
SameBlock w x y = x.channel ≡ y.channel → Before (ground w.kind w.net every_link) x.path y.path

-- no lower first channel
pub record Lower {C : Type 0} (w : Wanted C) (x y : Way) : Type 0 where
  pub low : x.channel ≤ y.channel
  pub chosen : SameBlock w x y

-- nothing cheaper, and no lower first channel at the same cost
pub record Cheaper {C : Type 0} (w : Wanted C) (x y : Way) : Type 0 where
  pub cheap : w.kind.at_most (way_cost w x) (way_cost w y) ≡ true
  pub low : way_cost w x ≡ way_cost w y → x.channel ≤ y.channel
  pub chosen : SameBlock w x y

abbrev pub Ahead : {C : Type 0} → Fit → Wanted C → Way → Way → Type 0
Ahead First w x y = Lower w x y
Ahead Best w x y = Cheaper w x y

pub record ChosenWay {C : Type 0} (fit : Fit) (w : Wanted C) (x : Way) : Type 0 where
  pub allowed : AllowedWay w x
  pub ahead : (y : Way) → AllowedWay w y → Ahead fit w x y

abbrev pub Right : {C : Type 0} → Fit → Wanted C → Option Way → Type 0
Right fit w o = MatchOption o ((x : Way) → AllowedWay w x → ⊥) (ChosenWay fit w)

abbrev pub WayIsRight : {C : Type 0} → Kind C → Type 0
WayIsRight {C} k = (fit : Fit) (w : Wanted C) → w.kind ≡ k → Right fit w (chosen_way fit w)
