-- `verdict::stretches::at_most` meets its contract. Assumes nothing.
use mathlib.Core.Path.{ap, sym, ◌∙◌}
use Rattle.verdict.specs.Stretches.{passes_below, passes_at_most}
use Rattle.verdict.specs.inner.Lifted.{line_of}
use Rattle.verdict.proofs.PassesBelow.{raised_lifted}
use Rattle.verdict.proofs.stretches.at_most.Goals as goal

pub returns : goal.returns
unfolding passes_at_most
returns c = c.below.ensures ∙ ap (passes_below (line_of c.args.x)) (sym (raised_lifted _ _ c.args.y.at c.args.y.step))
