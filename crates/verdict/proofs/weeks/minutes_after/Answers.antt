-- `verdict::weeks::minutes_after` meets its contract. Assumes nothing.
use Rattle.verdict.proofs.Minutes.{minute_ahead, minute_back}
use Rattle.verdict.proofs.weeks.minutes_after.Goals as goal

pub returns-then-b-a : goal.returns-then-b-a
returns-then-b-a c = minute_ahead _ _ c.if-b-a.true

pub returns : goal.returns
returns c = minute_back _ _ c.if-b-a.false
