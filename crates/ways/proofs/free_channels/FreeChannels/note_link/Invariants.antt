use Rattle.std.proofs.Common.{◌≡◌}
use Rattle.ways.specs.Hours.{LinkTold}
use Rattle.ways.proofs.free_channels.FreeChannels.note_link.Given as goal

abbrev pub invariant-loop-channel : goal.invariant-loop-channel
invariant-loop-channel g l =
    goal.F-IsAlwaysCallable g l.is_free
    × (l.self.channels ≡ l.initial.self.channels)
    × LinkTold (goal.F-post g l.is_free) l.initial.self.cells.items l.self.cells.items l.link l.channel
