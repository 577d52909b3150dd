-- `settling::settle_plan` meets its contract. Assumes nothing.
use Rattle.settling.proofs.Ways.{answer_fits, laid_short, scratch_short, none_found, found}
use Rattle.settling.proofs.settle_plan.Goals as goal

pub returns-then-laid-ne-MOST_PLAN : goal.returns-then-laid-ne-MOST_PLAN
returns-then-laid-ne-MOST_PLAN c = laid_short c.args.inputs.now.rule.now c.args.inputs.now.plan.bytes.now c.args.laid.now c.args.scratch.now c.args.inputs.now.ready c.if-laid-ne-MOST_PLAN.true

pub returns-then-scratch-ne-SCRATCH_LENGTH : goal.returns-then-scratch-ne-SCRATCH_LENGTH
returns-then-scratch-ne-SCRATCH_LENGTH c = scratch_short c.args.inputs.now.rule.now c.args.inputs.now.plan.bytes.now c.args.laid.now c.args.scratch.now c.args.inputs.now.ready c.if-laid-ne-MOST_PLAN.false c.if-scratch-ne-SCRATCH_LENGTH.true

pub put_layout-requires : goal.put_layout-requires
put_layout-requires c = (answer_fits c.args.inputs.now.rule.now c.args.inputs.now.plan.bytes.now c.fewest_passes-found.ensures c.in-Ok.is, c.if-laid-ne-MOST_PLAN.false)

pub returns-in-Ok : goal.returns-in-Ok
returns-in-Ok c = found c.args.inputs.now.rule.now c.args.inputs.now.plan.bytes.now c.args.laid.now c.args.scratch.now c.args.inputs.now.ready c.if-laid-ne-MOST_PLAN.false c.if-scratch-ne-SCRATCH_LENGTH.false c.fewest_passes-found.ensures _ c.fewest_passes-found.auto.scratch c.clear.ensures c.in-Ok.is c.put_layout.ensures

pub returns-in_default : goal.returns-in_default
returns-in_default c = none_found c.args.inputs.now.rule.now c.args.inputs.now.plan.bytes.now c.args.laid.now c.args.scratch.now c.args.inputs.now.ready c.if-laid-ne-MOST_PLAN.false c.if-scratch-ne-SCRATCH_LENGTH.false c.fewest_passes-found.ensures _ c.fewest_passes-found.auto.scratch c.clear.ensures c.in_default.is
