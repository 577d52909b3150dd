-- The invariants of `lanes::weeks::within_lines`.
use Prim.Native.Nat.{◌-◌, ◌≤◌}
use mathlib.Core.Path.{◌≡◌}
use Rattle.table.specs.inner.Tables.{all_below}
use Rattle.verdict.specs.declared.Relation.TheVariants.{Within}
use Rattle.lanes.specs.inner.Agreement.{lines_agree}
use Rattle.lanes.specs.inner.Stretches.{mark_of}
use Rattle.lanes.proofs.weeks.within_lines.Given as goal

abbrev pub invariant-loop-k : goal.invariant-loop-k
invariant-loop-k l = (l.k ≤ l.lines.stretch.count) × (l.all ≡ all_below (λ j. lines_agree (Within l.minutes) l.lines.stretch.values.now l.lines.drifts.now l.lines.stretch.x l.lines.stretch.y (mark_of l.lines.stretch j) j) l.k)

abbrev pub decreases-loop-k : goal.decreases-loop-k
decreases-loop-k l = l.lines.stretch.count - l.k
