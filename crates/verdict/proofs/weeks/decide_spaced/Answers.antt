-- `verdict::weeks::decide_spaced` meets its contract. Assumes nothing.
use Rattle.verdict.proofs.Minutes.{spaced_none, spaced_all, spaced_some}
use Rattle.verdict.proofs.weeks.decide_spaced.Goals as goal

pub returns-then-n-least : goal.returns-then-n-least
returns-then-n-least c = spaced_none _ c.args.apart _ c.if-n-least.true

pub returns-then-least-apart : goal.returns-then-least-apart
returns-then-least-apart c = spaced_all _ c.args.apart _ c.if-n-least.false c.if-least-apart.true

pub returns : goal.returns
returns c = spaced_some _ c.args.apart _ c.if-n-least.false c.if-least-apart.false
