-- The invariants of `lanes::layout::lay_channel`.
use Prim.Native.Nat.{◌+◌, ◌*◌, ◌-◌, ◌≤◌}
use mathlib.Core.Path.{◌≡◌}
use Rattle.lanes.specs.inner.Lanes.{LaidTo}
use lib.ListN.{length}
use Rattle.lanes.proofs.layout.lay_channel.Given as goal

abbrev pub invariant-loop-k : goal.invariant-loop-k
invariant-loop-k l = (l.k ≤ l.stored) × (length l.lanes ≡ length l.initial.lanes) × LaidTo l.array l.sizes.channels l.stored l.lanes (l.channel * l.stored + l.k)

abbrev pub decreases-loop-k : goal.decreases-loop-k
decreases-loop-k l = l.stored - l.k
