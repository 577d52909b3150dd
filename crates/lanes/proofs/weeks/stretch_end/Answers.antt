-- `lanes::weeks::stretch_end` meets its contract. Assumes nothing.
use mathlib.Core.Path.{◌∙◌, sym, ap}
use native.Mathlib.Omega.{arith}
use Rattle.fields.specs.inner.Biased.{unbiased}
use Rattle.lanes.proofs.Windows.{same_next}
use Rattle.lanes.proofs.weeks.stretch_end.Goals as goal

pub loop-row-preserved : goal.loop-row-preserved
loop-row-preserved c = (omega (arith, c.loop-row-test.true), same_next _ _ _ _ _ _ _ c.loop-row.invariant.1 (sym (ap unbiased c.if-left_drift-left.false) ∙ c.left_drift.ensures) (sym (ap unbiased c.if-right_drift-right.false) ∙ c.right_drift.ensures))
