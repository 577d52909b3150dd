-- The invariants of `marks::closing::truth_on`.
use mathlib.Core.Path.{◌≡◌}
use Rattle.plan.specs.inner.Sizes.{all_rows}
use Rattle.table.specs.Layout.{marked}
use Rattle.marks.specs.Parts.{running}
use Rattle.marks.proofs.closing.truth_on.Given as goal

abbrev pub invariant-loop-at : goal.invariant-loop-at
invariant-loop-at l = l.truth ≡ running (marked (all_rows l.table.sizes) l.table.bytes.now) l.operator l.first l.at
