use Rattle.std.proofs.Common.{◌≡◌, ◌+◌}
use Rattle.ways.specs.Hours.{Told}
use Rattle.ways.proofs.free_channels.FreeChannels.note.Given as goal

abbrev pub invariant-loop-link : goal.invariant-loop-link
invariant-loop-link g l =
    goal.F-IsAlwaysCallable g l.is_free
    × (l.self.channels ≡ l.channels)
    × Told (goal.F-post g l.is_free) l.self.cells.items l.link (l.channels + 1)
