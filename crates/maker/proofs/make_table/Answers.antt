use mathlib.Core.Path.{◌∙◌}
use Rattle.table.proofs.Places.{area}
use Rattle.inputs.proofs.Parts.{few_there, last_there}
use native.Mathlib.Omega.{arith}
use Rattle.labelling.proofs.Guessing.{as_long}
use Rattle.maker.proofs.Turns.{other_length, right_sized, zero_left, table_left, made_left, at_most}
use Rattle.maker.proofs.Guessed.{guess_left}
use Rattle.table.proofs.Stores.{stored_sized}
use Rattle.maker.proofs.make_table.Goals as goal

pub overflow_mul-inputs : goal.overflow_mul-inputs
overflow_mul-inputs c =
    let few = few_there _ _ c.args.inputs.now.ready in
    omega (arith, area _ _ few.0 few.1)

pub overflow_add-inputs : goal.overflow_add-inputs
overflow_add-inputs c =
    let few = few_there _ _ c.args.inputs.now.ready in
    omega (arith, area _ _ few.0 few.1)

pub overflow_mul-inputs-2 : goal.overflow_mul-inputs-2
overflow_mul-inputs-2 c =
    let few = few_there _ _ c.args.inputs.now.ready in
    omega arith

pub overflow_add-inputs-2 : goal.overflow_add-inputs-2
overflow_add-inputs-2 c =
    let few = few_there _ _ c.args.inputs.now.ready in
    omega (arith, area _ _ few.0 few.1)

pub returns-then-marks-inputs : goal.returns-then-marks-inputs
returns-then-marks-inputs c = other_length _ _ c.args.inputs.now.ready c.args.marks.now c.if-marks-inputs.true

pub guess_table-requires : goal.guess_table-requires
guess_table-requires c = (right_sized _ _ c.args.inputs.now.ready c.args.marks.now c.if-marks-inputs.false)

pub returns-in-Ok : goal.returns-in-Ok
returns-in-Ok c = guess_left _ _ c.args.inputs.now.ready c.args.marks.now c.if-marks-inputs.false c.guess_table.ensures c.in-Ok.is

pub make_parts-requires : goal.make_parts-requires
make_parts-requires c = (as_long c.guess_table.ensures.long (right_sized _ _ c.args.inputs.now.ready c.args.marks.now c.if-marks-inputs.false))

pub clear-requires : goal.clear-requires
clear-requires c =
    let most = (at_most _ _ (right_sized _ _ c.args.inputs.now.ready c.args.marks.now c.if-marks-inputs.false)).1 in
    let long = c.make_parts.ensures.1.long in
    let guessed = c.guess_table.ensures.long in
    omega arith

pub returns-in-Err : goal.returns-in-Err
returns-in-Err c = zero_left _ _ c.args.inputs.now.ready c.args.marks.now c.if-marks-inputs.false _ _ (c.make_parts.ensures.1.long ∙ c.guess_table.ensures.long) c.clear.ensures c.make_parts.ensures.0 c.in-Err.is

pub overflow_sub-inputs : goal.overflow_sub-inputs
overflow_sub-inputs c = omega (arith, last_there _ _ c.args.inputs.now.ready)

pub mark_at-requires : goal.mark_at-requires
mark_at-requires c =
    let there = last_there _ _ c.args.inputs.now.ready in
    (stored_sized _ _ c.put_number-2.ensures (stored_sized _ _ c.put_number.ensures (c.make_parts.ensures.1.made c.in_default-make_parts.is).sized), omega arith, omega arith)

pub returns : goal.returns
returns c =
    let rule = c.args.inputs.now.rule.now in
    let plan = c.args.inputs.now.plan.bytes.now in
    let before = c.args.marks.now in
    let whole = table_left rule plan c.args.inputs.now.ready before c.if-marks-inputs.false _ _ _ (c.make_parts.ensures.1.made c.in_default-make_parts.is) c.put_number.ensures c.put_number-2.ensures in
    made_left rule plan c.args.inputs.now.ready before c.if-marks-inputs.false whole c.make_parts.ensures.0 c.in_default-make_parts.is c.mark_at.ensures
