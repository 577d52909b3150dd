use Rattle.live.proofs.TruthLaws.{one_day, over_the_end}
use Rattle.live.proofs.truths.in_window.Goals as goal

-- src/truths.rt:66:1
pub returns-then-from-to : goal.returns-then-from-to
returns-then-from-to c = one_day _ _ _ c.if-from-to.true

-- src/truths.rt:66:1
pub returns-else-from-to : goal.returns-else-from-to
returns-else-from-to c = over_the_end _ _ _ c.if-from-to.false
