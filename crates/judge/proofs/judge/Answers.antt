use mathlib.Core.Path.{ap₂, ◌∙◌}
use Rattle.std.proofs.Common.{rules}
use Rattle.inputs.proofs.Ways as ways
use Rattle.judge.specs.Judge.{judge_of}
use Rattle.judge.proofs.Entry.{inputs_refused}
use Rattle.judge.proofs.Promised.{judge_promise}
use Rattle.judge.proofs.judge.Goals as goal

pub returns-in_err-inputs : goal.returns-in_err-inputs
returns-in_err-inputs c =
    let e = judge_promise _ _ _ _ (inputs_refused c.args.rule.now c.args.plan.now c.args.part c.args.row (ways.refused c.args.rule.now c.args.plan.now c.in_err-inputs.ensures)) in
    search rules

pub returns : goal.returns
returns c =
    judge_promise _ _ _ _
    (c.judge_part.ensures ∙ ap₂ (λ rule plan. judge_of rule plan c.args.part c.args.row) c.in_ok-inputs.ensures.0 c.in_ok-inputs.ensures.1)
