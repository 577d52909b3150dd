use mathlib.Core.Path.{refl}
use Rattle.refusal.proofs.First.{turn_first}
use Rattle.plan.specs.inner.Sizes.{all_rows}
use Rattle.inputs.proofs.Parts.{always_taken}
use Rattle.acceptance.proofs.PartsInTurn as law
use Rattle.acceptance.proofs.PartsInTurn.{rows_most}
use native.Mathlib.Omega.{arith}
use Rattle.acceptance.proofs.check_parts.Goals as goal

pub parts-init : goal.parts-init
parts-init c = (refl, turn_first _ _)

pub surely_clear-sure-requires : goal.surely_clear-sure-requires
surely_clear-sure-requires c = (law.readable _ _ _ c.requires.0 c.parts.i c.parts-test.true c.take.ensures.is_take c.in_ok-part.was c.view_of-view.ensures, c.requires.0.marks, c.requires.1)

pub check_closing-closing-requires : goal.check_closing-closing-requires
check_closing-closing-requires c = (law.readable _ _ _ c.requires.0 c.parts.i c.parts-test.true c.take.ensures.is_take c.in_ok-part.was c.view_of-view.ensures, λ sure. (c.surely_clear-sure.ensures sure).closing)

pub loop-row-init : goal.loop-row-init
loop-row-init c = (c.parts.invariant.0, law.searched _ _ _ c.requires.0 c.parts.i c.parts-test.true c.take.ensures.is_take c.in_ok-part.was c.view_of-view.ensures c.surely_clear-sure.result c.surely_clear-sure.ensures c.choose-row-end.result c.choose-row-end.ensures)

pub breaks_on-requires : goal.breaks_on-requires
breaks_on-requires c = (law.readable _ _ _ c.requires.0 c.parts.i c.parts-test.true c.take.ensures.is_take c.in_ok-part.was c.view_of-view.ensures, omega (arith, c.loop-row-test.true, rows_most c.surely_clear-sure.result c.choose-row-end.result (all_rows c.args.inputs.now.plan.sizes) c.choose-row-end.ensures))

pub loop-row-preserved : goal.loop-row-preserved
loop-row-preserved c = (c.loop-row.invariant.0, law.row_met _ _ _ c.requires.0 c.parts.i c.parts-test.true c.take.ensures.is_take c.in_ok-part.was c.view_of-view.ensures c.choose-row-end.result c.loop-row.row c.loop-row.invariant.1 c.loop-row-test.true c.breaks_on.ensures c.if-breaks_on.false)

pub check_witness-witness-requires : goal.check_witness-witness-requires
check_witness-witness-requires c = law.readable _ _ _ c.requires.0 c.parts.i c.parts-test.true c.take.ensures.is_take c.in_ok-part.was c.view_of-view.ensures

pub parts-preserved : goal.parts-preserved
parts-preserved c = (c.loop-row.invariant.0, law.part_passed _ _ _ c.requires.0 c.parts.i c.parts-test.true c.take.ensures.is_take c.in_ok-part.was c.view_of-view.ensures c.parts.invariant.1 c.check_closing-closing.ensures c.in_default.is (law.rows_met _ _ _ c.requires.0 c.parts.i c.parts-test.true c.take.ensures.is_take c.in_ok-part.was c.view_of-view.ensures c.choose-row-end.result c.loop-row.row c.loop-row.invariant.1 c.loop-row-test.false) c.check_witness-witness.ensures c.in_default-witness.is)

pub returns-after-parts : goal.returns-after-parts
returns-after-parts c = law.all_passed _ _ _ c.requires.0 c.parts.i c.parts.invariant.1 c.parts-test.false c.parts.invariant.0

pub returns-in_err-part : goal.returns-in_err-part
returns-in_err-part c = absurd (always_taken _ _ c.requires.0.ready c.parts.i c.parts-test.true c.take.ensures.is_take c.in_err-part.was)

pub returns-in-Err : goal.returns-in-Err
returns-in-Err c = law.closing_refused _ _ _ c.requires.0 c.parts.i c.parts-test.true c.take.ensures.is_take c.in_ok-part.was c.view_of-view.ensures c.parts.invariant.1 c.check_closing-closing.ensures c.in-Err.is

pub returns-then-breaks_on : goal.returns-then-breaks_on
returns-then-breaks_on c = law.equation_refused _ _ _ c.requires.0 c.parts.i c.parts-test.true c.take.ensures.is_take c.in_ok-part.was c.view_of-view.ensures c.parts.invariant.1 c.check_closing-closing.ensures c.in_default.is c.choose-row-end.result c.loop-row.row c.loop-row.invariant.1 c.loop-row-test.true c.breaks_on.ensures c.if-breaks_on.true

pub returns-in-Err-witness : goal.returns-in-Err-witness
returns-in-Err-witness c = law.witness_refused _ _ _ c.requires.0 c.parts.i c.parts-test.true c.take.ensures.is_take c.in_ok-part.was c.view_of-view.ensures c.parts.invariant.1 c.check_closing-closing.ensures c.in_default.is (law.rows_met _ _ _ c.requires.0 c.parts.i c.parts-test.true c.take.ensures.is_take c.in_ok-part.was c.view_of-view.ensures c.choose-row-end.result c.loop-row.row c.loop-row.invariant.1 c.loop-row-test.false) c.check_witness-witness.ensures c.in-Err-witness.is
