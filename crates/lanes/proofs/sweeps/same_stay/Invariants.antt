-- The invariants of `lanes::sweeps::same_stay`.
use mathlib.Core.Path.{◌≡◌}
use mathlib.Core.Bool.{true}
use Rattle.table.specs.inner.Tables.{all_below}
use Rattle.verdict.specs.Lines.{judge_equal}
use Rattle.lanes.specs.inner.Agreement.{stays}
use Rattle.lanes.specs.inner.Columns.{line_in}
use Rattle.lanes.proofs.sweeps.same_stay.Given as goal

abbrev pub invariant-loop-k : goal.invariant-loop-k
invariant-loop-k l = true ≡ all_below (λ j. stays (judge_equal (line_in l.lines.stretch.values.now l.lines.drifts.now l.lines.stretch.x j) (line_in l.lines.stretch.values.now l.lines.drifts.now l.lines.stretch.y j))) l.k
