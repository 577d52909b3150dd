-- The invariants of `lanes::weeks::blocks_end`.
use Prim.Native.Nat.{◌-◌, ◌≤◌}
use Rattle.lanes.specs.inner.Spacing.{SameDrifts}
use Rattle.lanes.proofs.weeks.blocks_end.Given as goal

abbrev pub invariant-loop-end : goal.invariant-loop-end
invariant-loop-end l = (l.end ≤ l.count) × (SameDrifts l.lines.drifts.now l.lines.stretch.x l.lines.stretch.y l.left l.right l.from l.end)

abbrev pub decreases-loop-end : goal.decreases-loop-end
decreases-loop-end l = l.count - l.end
