-- The invariants of `lanes::weeks::stretch_end`.
use Prim.Native.Nat.{◌≤◌}
use Rattle.lanes.specs.inner.Spacing.{SameDrifts}
use Rattle.lanes.proofs.weeks.stretch_end.Given as goal

abbrev pub invariant-loop-row : goal.invariant-loop-row
invariant-loop-row l = (l.row ≤ l.count) × (SameDrifts l.lines.drifts.now l.lines.stretch.x l.lines.stretch.y l.left l.right l.from l.row)
