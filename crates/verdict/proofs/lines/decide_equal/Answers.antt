-- `verdict::lines::decide_equal` meets its contract. Assumes nothing.
use mathlib.Core.Path.{sym, ◌∙◌}
use native.Mathlib.Omega.{arith}
use Rattle.verdict.proofs.Decisions.{equal_always, equal_once, below_meets, above_meets}
use Rattle.verdict.proofs.lines.decide_equal.Goals.{then-x-y-3, else-x-y-3}
use Rattle.verdict.proofs.lines.decide_equal.Goals as goal

pub returns-then-x-y-2 : goal.returns-then-x-y-2
returns-then-x-y-2 c = sym (equal_always _ _ c.args.x.at _ c.args.y.at _ c.if-x-y.true c.if-x-y-2.true)

pub returns-then-x-y : goal.returns-then-x-y
returns-then-x-y c = sym (equal_once _ _ c.args.x.at _ c.args.y.at _ c.if-x-y.true c.if-x-y-2.false)

pub returns : goal.returns
returns c = elim c.if-x-y-3.branch [ then-x-y-3 w ↦ c.decide_meeting.ensures ∙ rw w.t-8-is (below_meets _ _ _ _ _ _ w.if-x-y-3.true) | else-x-y-3 w ↦ c.decide_meeting.ensures ∙ rw w.t-8-is (above_meets _ _ _ _ _ _ (omega (arith, w.if-x-y-3.false, c.if-x-y.false))) ]
