-- The invariants of `lanes::layout::lay_out`.
use Rattle.plan.specs.inner.Sizes.{all_stored}
use Prim.Native.Nat.{◌*◌, ◌-◌, ◌≤◌}
use mathlib.Core.Path.{◌≡◌}
use Rattle.lanes.specs.inner.Lanes.{LaidTo}
use lib.ListN.{length}
use Rattle.lanes.proofs.layout.lay_out.Given as goal

abbrev pub invariant-loop-channel : goal.invariant-loop-channel
invariant-loop-channel l = (l.channel ≤ l.sizes.channels) × (length l.lanes ≡ length l.initial.lanes) × LaidTo l.array l.sizes.channels (all_stored l.sizes) l.lanes (l.channel * all_stored l.sizes)

abbrev pub decreases-loop-channel : goal.decreases-loop-channel
decreases-loop-channel l = l.sizes.channels - l.channel
