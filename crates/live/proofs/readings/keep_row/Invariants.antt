-- The invariants of `live::readings::keep_row`.
use Prim.Native.Nat.{◌+◌}
use Rattle.live.specs.Kept.{reading_after}
use Rattle.live.proofs.Filling.{Filled}
use Rattle.live.proofs.readings.keep_row.Given as goal

abbrev pub invariant-loop-channel : goal.invariant-loop-channel
invariant-loop-channel l = Filled 0 l.initial.readings (reading_after l.fn.readings l.tops l.row l.v) (32 + l.channel) l.readings
