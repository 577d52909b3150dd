use mathlib.Core.Path.{ap₂, ◌∙◌}
use Rattle.std.proofs.Common.{rules}
use Rattle.inputs.proofs.Ways.{refused}
use Rattle.maker.specs.Make.{make_of, bytes_after}
use Rattle.maker.proofs.Turns.{inputs_refused}
use Rattle.maker.proofs.Promised.{make_promise}
use Rattle.maker.proofs.make.Goals as goal

pub returns-in_err-inputs : goal.returns-in_err-inputs
returns-in_err-inputs c =
    let told = inputs_refused c.args.rule.now c.args.plan.now c.args.marks.now (refused c.args.rule.now c.args.plan.now c.in_err-inputs.ensures) in
    let e = make_promise c.args.rule.now c.args.plan.now c.args.marks.now told.0 told.1 in
    search rules

pub returns : goal.returns
returns c =
    let same = c.in_ok-inputs.ensures in
    make_promise _ _ _
    (c.make_table.ensures.0 ∙ ap₂ (λ rule plan. make_of rule plan c.args.marks.now) same.0 same.1)
    (c.make_table.ensures.1 ∙ ap₂ (λ rule plan. bytes_after rule plan c.args.marks.now) same.0 same.1)
