-- `verdict::lines::decide_less` meets its contract. Assumes nothing.
use mathlib.Core.Path.{sym}
use Rattle.verdict.proofs.Decisions.{less_until, less_always, less_later, less_never}
use Rattle.verdict.proofs.lines.decide_less.Goals as goal

pub returns-then-y-x : goal.returns-then-y-x
returns-then-y-x c = sym (less_until _ _ _ _ _ _ c.if-x-y.true c.if-y-x.true)

pub returns-then-x-y : goal.returns-then-x-y
returns-then-x-y c = sym (less_always _ _ _ _ _ _ c.if-x-y.true c.if-y-x.false)

pub returns-then-x-y-2 : goal.returns-then-x-y-2
returns-then-x-y-2 c = sym (less_later _ _ _ _ _ _ c.if-x-y.false c.if-x-y-2.true)

pub returns : goal.returns
returns c = sym (less_never _ _ _ _ _ _ c.if-x-y.false c.if-x-y-2.false)
