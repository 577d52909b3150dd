-- `settling::settle` meets its contract. Assumes nothing.
use Rattle.std.proofs.Common.{rules}
use Rattle.inputs.proofs.Ways.{refused}
use Rattle.fields.proofs.ByteParts.{as_bytes}
use Rattle.settling.proofs.Ways.{inputs_refused, left_given}
use Rattle.settling.proofs.Promised.{settle_promise}
use Rattle.settling.proofs.settle.Goals as goal

pub returns-in_err-inputs : goal.returns-in_err-inputs
returns-in_err-inputs c =
    let bytes = as_bytes c.args.plan.now (search rules) in
    let told = inputs_refused c.args.rule.now c.args.plan.now c.args.laid.now c.args.scratch.now (refused c.args.rule.now c.args.plan.now c.in_err-inputs.ensures) in
    let kept = settle_promise c.args.rule.now c.args.plan.now c.args.laid.now c.args.scratch.now bytes told.0 told.1 told.2 in
    search rules

pub returns : goal.returns
returns c =
    let bytes = as_bytes c.args.plan.now (search rules) in
    let told = left_given c.args.laid.now c.args.scratch.now c.in_ok-inputs.ensures.0 c.in_ok-inputs.ensures.1 c.settle_plan.ensures in
    settle_promise c.args.rule.now c.args.plan.now c.args.laid.now c.args.scratch.now bytes told.0 told.1 told.2
