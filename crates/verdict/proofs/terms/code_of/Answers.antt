-- `verdict::terms::code_of` meets its contract. Assumes nothing.
use mathlib.Core.Path.{◌∙◌}
use native.Mathlib.Omega.{arith}
use mir.Syntax.{w32}
use mir.ValLaws.{to_z-of_z}
use Rattle.verdict.proofs.Lifts.{code_range, code_is}
use Rattle.verdict.proofs.terms.code_of.Goals as goal

pub overflow_sub-result : goal.overflow_sub-result
overflow_sub-result c = (code_range c.lift.result _ c.requires (c.lift.ensures.0 ∙ to_z-of_z w32 c.args.shift c.ranges.shift)).0

pub returns : goal.returns
returns c =
    let sub_result = (code_range c.lift.result _ c.requires (c.lift.ensures.0 ∙ to_z-of_z w32 c.args.shift c.ranges.shift)).0 in
    (code_is c.lift.result _ sub_result (c.lift.ensures.0 ∙ to_z-of_z w32 c.args.shift c.ranges.shift), omega (arith, code_range c.lift.result _ c.requires (c.lift.ensures.0 ∙ to_z-of_z w32 c.args.shift c.ranges.shift)))
