use mathlib.Core.Path.{ap₂, ◌∙◌}
use Rattle.std.proofs.Common.{rules}
use Rattle.inputs.proofs.Ways as ways
use Rattle.acceptance.specs.Check.{check_of}
use Rattle.acceptance.proofs.Entry.{inputs_refused}
use Rattle.acceptance.proofs.Promised.{check_promise}
use Rattle.acceptance.proofs.check.Goals as goal

pub returns-in_err-inputs : goal.returns-in_err-inputs
returns-in_err-inputs c =
    let e = check_promise _ _ _ (inputs_refused c.args.rule.now c.args.plan.now c.args.marks.now (ways.refused c.args.rule.now c.args.plan.now c.in_err-inputs.ensures)) in
    search rules

pub returns : goal.returns
returns c =
    check_promise _ _ _ (c.check_marks.ensures ∙ ap₂ (λ rule plan. check_of rule plan c.args.marks.now) c.in_ok-inputs.ensures.0 c.in_ok-inputs.ensures.1)
