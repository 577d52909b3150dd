use Rattle.std.specs.Prelude.{Err}
use mathlib.Core.Path.{ap, ◌∙◌}
use Rattle.inputs.proofs.Parts.{always_taken, taken_fitting}
use Rattle.table.proofs.Stores.{stored_sized}
use Rattle.maker.proofs.Turns.{part_open, part_closed, left_open, left_made}
use Rattle.maker.proofs.make_part.Goals as goal

pub returns-in_err-part : goal.returns-in_err-part
returns-in_err-part c = absurd (always_taken _ _ c.args.inputs.now.ready _ c.requires.1 c.take.ensures.is_take c.in_err-part.was)

pub label_part-requires : goal.label_part-requires
label_part-requires c = (c.requires.0.sized, c.requires.1, taken_fitting _ _ c.args.inputs.now.ready _ c.requires.1 c.take.ensures.is_take c.in_ok-part.was c.view_of-view.ensures)

pub returns-in-Err : goal.returns-in-Err
returns-in-Err c =
    let rule = c.args.inputs.now.rule.now in
    let plan = c.args.inputs.now.plan.bytes.now in
    let table = c.args.table.now in (
      ap Err c.no_table.ensures
          ∙ part_open rule plan c.args.inputs.now.ready _ c.requires.1 c.take.ensures.is_take c.in_ok-part.was c.view_of-view.ensures table c.requires.0 c.label_part.ensures.0 c.in-Err.is,
      left_open rule plan c.args.inputs.now.ready _ c.requires.1 c.take.ensures.is_take c.in_ok-part.was c.view_of-view.ensures table c.requires.0 c.label_part.ensures.1,
    )

pub lowest_witness-witness-requires : goal.lowest_witness-witness-requires
lowest_witness-witness-requires c =
    let sized = stored_sized _ _ (c.label_part.ensures.1.made c.in_default.is) c.requires.0.sized in
    (sized, c.requires.1, taken_fitting _ _ c.args.inputs.now.ready _ c.requires.1 c.take.ensures.is_take c.in_ok-part.was c.view_of-view.ensures)

pub returns : goal.returns
returns c =
    let rule = c.args.inputs.now.rule.now in
    let plan = c.args.inputs.now.plan.bytes.now in
    let table = c.args.table.now in (
      part_closed rule plan c.args.inputs.now.ready _ c.requires.1 c.take.ensures.is_take c.in_ok-part.was c.view_of-view.ensures table c.requires.0 c.label_part.ensures.0 c.in_default.is,
      left_made rule plan c.args.inputs.now.ready _ c.requires.1 c.take.ensures.is_take c.in_ok-part.was c.view_of-view.ensures table c.requires.0 _ _ c.label_part.ensures.1 c.in_default.is
          c.lowest_witness-witness.ensures.0 c.put_number.ensures,
    )
