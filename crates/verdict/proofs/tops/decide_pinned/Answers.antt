-- `verdict::tops::decide_pinned` meets its contract. Assumes nothing.
use Rattle.verdict.proofs.UnderTops.{pinned_always, pinned_some}
use Rattle.verdict.proofs.tops.decide_pinned.Goals as goal

pub returns-then-is_all : goal.returns-then-is_all
returns-then-is_all c = pinned_always _ _ c.passes_pinned-p.ensures c.is_all.ensures c.if-is_all.true

pub returns : goal.returns
returns c = pinned_some _ _ c.passes_pinned-p.ensures c.is_all.ensures c.if-is_all.false c.has_pass.ensures c.decide_some.ensures
