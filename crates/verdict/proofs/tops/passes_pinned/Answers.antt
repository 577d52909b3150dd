-- `verdict::tops::passes_pinned` meets its contract. Assumes nothing.
use mathlib.Core.Path.{ap, ◌∙◌}
use Rattle.verdict.specs.Lines.{Line}
use Rattle.verdict.specs.Stretches.{passes_at_most}
use Rattle.verdict.specs.inner.Lifted.{line_of}
use Rattle.verdict.proofs.UnderTops.{pinned_none, pinned_above}
use Rattle.verdict.proofs.tops.passes_pinned.Goals as goal

pub returns-then-x-eq0 : goal.returns-then-x-eq0
returns-then-x-eq0 c = pinned_none _ _ c.if-x-eq0.true

pub returns : goal.returns
returns c = c.at_most.ensures ∙ ap (λ (l : Line). passes_at_most l (line_of c.args.x.line)) c.level_at.ensures.0 ∙ pinned_above _ _ c.if-x-eq0.false
