-- `settling::parts::try_part` meets its contract. Assumes nothing.
use Rattle.inputs.proofs.Parts.{always_taken, taken_fitting}
use Rattle.settling.proofs.Searching.{few_parts, part_tried}
use Rattle.settling.proofs.parts.try_part.Goals as goal

pub returns-in_default : goal.returns-in_default
returns-in_default c = absurd (always_taken c.args.inputs.now.rule.now c.args.inputs.now.plan.bytes.now c.args.inputs.now.ready _ c.requires.2 c.take.ensures.is_take c.in_default.is)

pub try_view-requires : goal.try_view-requires
try_view-requires c = (c.requires.0, c.requires.1.room, few_parts c.args.inputs.now.rule.now c.args.inputs.now.plan.bytes.now c.args.inputs.now.ready c.requires.2, taken_fitting c.args.inputs.now.rule.now c.args.inputs.now.plan.bytes.now c.args.inputs.now.ready _ c.requires.2 c.take.ensures.is_take c.in-Ok.is c.view_of.ensures)

pub returns : goal.returns
returns c = part_tried c.args.inputs.now.rule.now c.args.inputs.now.plan.bytes.now c.args.inputs.now.ready c.args.passes c.requires.0 c.args.i c.requires.2 c.take.ensures.is_take c.in-Ok.is c.view_of.ensures c.requires.1 c.try_view.ensures
