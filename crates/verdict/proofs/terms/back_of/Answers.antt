-- `verdict::terms::back_of` meets its contract. Assumes nothing.
use mathlib.Core.Path.{◌∙◌}
use mir.Syntax.{w32}
use mir.ValLaws.{to_z-of_z}
use Rattle.verdict.proofs.Lifts.{reaches}
use Rattle.verdict.proofs.terms.back_of.Goals as goal

pub returns : goal.returns
returns c = c.saturating_sub.ensures ∙ reaches c.lift.result _ (c.lift.ensures.0 ∙ to_z-of_z w32 c.args.shift c.ranges.shift)
