-- `verdict::tops::passes_free` meets its contract. Assumes nothing.
use mathlib.Core.Path.{ap, ◌∙◌}
use Rattle.verdict.specs.Stretches.{passes_below}
use Rattle.verdict.specs.inner.Lifted.{line_of}
use Rattle.verdict.proofs.UnderTops.{free_none, free_below}
use Rattle.verdict.proofs.tops.passes_free.Goals as goal

pub returns-then-x-eq0 : goal.returns-then-x-eq0
returns-then-x-eq0 c = free_none _ _ c.if-x-eq0.true

pub returns : goal.returns
returns c = c.below.ensures ∙ ap (passes_below (line_of c.args.x.line)) c.level_at.ensures.0 ∙ free_below _ _ c.if-x-eq0.false
