-- `lanes::sweeps::same_stay` meets its contract. Assumes nothing.
use mathlib.Core.Path.{ap, ap₂, ◌∙◌}
use mathlib.Core.Bool.{not}
use Rattle.table.proofs.AllBelow.{sweep_first}
use Rattle.verdict.specs.Lines.{Line, judge_equal}
use Rattle.lanes.specs.inner.Agreement.{stays}
use Rattle.lanes.proofs.Reaching.{sweep_stops, sweep_passes}
use Rattle.lanes.proofs.Comparing.{line_is}
use Rattle.lanes.proofs.sweeps.same_stay.Goals as goal

pub loop-k-init : goal.loop-k-init
loop-k-init c = sweep_first _

pub returns-then-not-same_stays : goal.returns-then-not-same_stays
returns-then-not-same_stays c = sweep_stops _ _ _ c.loop-k-test.true (c.same_stays.ensures ∙ ap₂ (λ (p q : Line). stays (judge_equal p q)) (line_is c.left_number.result c.left_drift.result c.left_number.ensures.0 c.left_drift.ensures) (line_is c.right_number.result c.right_drift.result c.right_number.ensures.0 c.right_drift.ensures)) (ap not c.if-not-same_stays.true)

pub loop-k-preserved : goal.loop-k-preserved
loop-k-preserved c = sweep_passes _ _ c.loop-k.invariant (c.same_stays.ensures ∙ ap₂ (λ (p q : Line). stays (judge_equal p q)) (line_is c.left_number.result c.left_drift.result c.left_number.ensures.0 c.left_drift.ensures) (line_is c.right_number.result c.right_drift.result c.right_number.ensures.0 c.right_drift.ensures)) (ap not c.if-not-same_stays.false)
