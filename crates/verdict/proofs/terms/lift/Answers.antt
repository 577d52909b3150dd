-- `verdict::terms::lift` meets its contract. Assumes nothing.
use mathlib.Core.Path.{◌∙◌, ap}
use mir.Syntax.{w32}
use mir.ValLaws.{to_z-of_z}
use Rattle.fields.specs.TwosComplement.{pattern_of}
use Rattle.verdict.proofs.Lifts.{lifts}
use Rattle.verdict.proofs.terms.lift.Goals as goal

pub returns : goal.returns
returns c = (lifts _ _ c.biased.result c.ranges.z (c.pattern.ensures ∙ ap (pattern_of 4) (to_z-of_z w32 c.args.z c.ranges.z)) c.biased.ensures.0, c.biased.ensures.1)
