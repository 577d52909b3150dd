-- The answers of the table are those that the definitions give. Assumes nothing.
use Rattle.refusal.specs.Outcome.{unrefused}
use Rattle.std.specs.Prelude.{Err}
use Prim.Native.Nat.{ℕ}
use mathlib.Core.Path.{◌≡◌, refl, sym, ap}
use mathlib.Core.Bool.{Bool}
use Rattle.refusal.specs.declared.Refusal.TheVariants.{Witness}
use Rattle.refusal.specs.Lowest.{or_after, lowest_from, lowest}
use Rattle.refusal.specs.First.{◌or_else◌, unless, refused_at, at_lowest, in_turn_from, in_turn}
use Rattle.fields.specs.LittleEndian.{number_at}
use Rattle.fields.specs.TwosComplement.{signed_of, signed_at}
use Rattle.cltlb.specs.Run.{is_top, is_pinned, under}
use Rattle.cltlb.specs.Truth.{value_at}
use Rattle.rule.specs.Layout.{part_count, channel_count, kind_place, operand_place, kind_byte}
use Rattle.cltlb.specs.Fits.{shift_fits, term_fits, atom_fits, names_lower, view_fits}
use Rattle.rule.specs.Terms.{shift_of, term_at}
use Rattle.rule.specs.Operands.{all_zero, both_terms, operand_at}
use Rattle.rule.specs.Kinds.{shape_of, kind_unknown, part_of}
use Rattle.rule.specs.Take.{taken_operand, take_of, part_taken, parts_of, views_of}
use Rattle.rule.specs.Sheet.{is_refused, untakeable, sheet_outcome}
use Rattle.plan.specs.Layout.{channels, start_rows, cycle_rows, lead_rows, rows, stored_rows, array_length, entry, tops, top_of, any_below, negative_top, tops_fit, readings, drifts, cell, stored_reading, stored_drift, reading_of, drift_of}
use Rattle.plan.specs.Positions.{row_of, pass_of, last, after}
use Rattle.plan.specs.Run.{reading_on, reading_at, lead_at, run_of}
use Rattle.plan.specs.Refusals.{is_zero, drifts_at, drifting, named_row, plan_outcome}
use Rattle.verdict.specs.Lines.{judge_less, meets, judge_equal}
use Rattle.verdict.specs.Comparisons.{of_number, of_numbers, tested}
use Rattle.verdict.specs.Stretches.{is_all, common}
use Rattle.verdict.specs.Tops.{passes_free, judge_on, judge_free, judge_under}
use Rattle.verdict.specs.Rows.{channel_line, term_line, join_first, test_at, judge_cycle, judge_row, atom_at, verdict_of}
use Rattle.judge.specs.Judge.{verdict_on, judge_outcome, judged_as, judge_of}
use Rattle.inputs.specs.Outcome.{inputs_outcome}
use Rattle.table.specs.Layout.{mark_byte, marked, witness_of, above_one, bytes_outcome, table_outcome}
use Rattle.marks.specs.Equations.{mark_beside, operator_mark, expected}
use Rattle.marks.specs.Parts.{is_cycle_row, names, witness_two, running, closes_by, closes, witness_of_operator, witness_in_order, steady_outcome, breaks, equation_outcome, closing_outcome, witness_outcome, part_outcome}
use Rattle.acceptance.specs.Check.{mark_of, witness_at, parts_outcome, check_outcome, answered, check_of}
use Rattle.rule.specs.Layout as rule
use Rattle.plan.specs.Layout as plan
use Rattle.table.specs.Layout as marks
use Rattle.worked_examples.specs.Rows.{All}
use Rattle.worked_examples.specs.Table.{rule_e10, plan_e10, marks_e10_1, examples}
use Rattle.worked_examples.proofs.Said.{Right}
use Rattle.worked_examples.proofs.Unwitnessed.{unwitnessed}

-- E10, marked 1: every other test is passed, so that the answer hangs on the witness alone, and none is in order
unwitnessed_refused : (lo hi : ℕ) → check_of rule_e10 plan_e10 (marks_e10_1 lo hi) ≡ Err (Witness 2)
unfolding or_after lowest_from lowest ◌or_else◌ unless refused_at at_lowest in_turn_from in_turn number_at signed_of signed_at is_top is_pinned under value_at part_count channel_count kind_place operand_place kind_byte shift_of shift_fits term_fits atom_fits names_lower view_fits term_at all_zero both_terms operand_at shape_of kind_unknown part_of taken_operand take_of part_taken parts_of views_of is_refused untakeable sheet_outcome channels start_rows cycle_rows lead_rows rows stored_rows array_length entry tops top_of any_below negative_top tops_fit readings drifts cell stored_reading stored_drift reading_of drift_of row_of pass_of last after reading_on reading_at lead_at run_of is_zero drifts_at drifting named_row plan_outcome judge_less meets judge_equal of_number of_numbers tested is_all common passes_free judge_on judge_free judge_under channel_line term_line join_first test_at judge_cycle judge_row atom_at verdict_of verdict_on inputs_outcome judge_outcome judged_as judge_of mark_byte marked witness_of above_one bytes_outcome table_outcome mark_beside operator_mark expected is_cycle_row names witness_two running closes_by closes witness_of_operator witness_in_order steady_outcome breaks equation_outcome closing_outcome witness_outcome part_outcome mark_of witness_at parts_outcome check_outcome answered check_of rule.sizes_fit plan.sizes_fit marks.sizes_fit
unwitnessed_refused lo hi =
    ap (λ (b : Bool). answered rule_e10 plan_e10 (marks_e10_1 lo hi) (unless b (Witness 2) or_else unrefused))
    (unwitnessed lo hi (witness_at rule_e10 plan_e10 (marks_e10_1 lo hi) 2))

pub answers : (lo hi : ℕ) → All Right (examples lo hi)
unfolding All Right examples or_after lowest_from lowest ◌or_else◌ unless refused_at at_lowest in_turn_from in_turn number_at signed_of signed_at is_top is_pinned under value_at part_count channel_count kind_place operand_place kind_byte shift_of shift_fits term_fits atom_fits names_lower view_fits term_at all_zero both_terms operand_at shape_of kind_unknown part_of taken_operand take_of part_taken parts_of views_of is_refused untakeable sheet_outcome channels start_rows cycle_rows lead_rows rows stored_rows array_length entry tops top_of any_below negative_top tops_fit readings drifts cell stored_reading stored_drift reading_of drift_of row_of pass_of last after reading_on reading_at lead_at run_of is_zero drifts_at drifting named_row plan_outcome judge_less meets judge_equal of_number of_numbers tested is_all common passes_free judge_on judge_free judge_under channel_line term_line join_first test_at judge_cycle judge_row atom_at verdict_of verdict_on inputs_outcome judge_outcome judged_as judge_of mark_byte marked witness_of above_one bytes_outcome table_outcome mark_beside operator_mark expected is_cycle_row names witness_two running closes_by closes witness_of_operator witness_in_order steady_outcome breaks equation_outcome closing_outcome witness_outcome part_outcome mark_of witness_at parts_outcome check_outcome answered check_of rule.sizes_fit plan.sizes_fit marks.sizes_fit
answers lo hi = (
  (record { sheet = refl; plan_clear = refl; table_clear = refl }, refl),
  (
    refl,
    (
      refl,
      (
        (record { sheet = refl; plan_clear = refl; table_clear = refl }, refl),
        (
          (record { sheet = refl; plan_clear = refl; table_clear = refl }, refl),
          (
            (record { sheet = refl; plan_clear = refl; table_clear = refl }, refl),
            (
              (record { sheet = refl; plan_clear = refl; table_clear = refl }, refl),
              (
                refl,
                (
                  refl,
                  (
                    refl,
                    (
                      refl,
                      (
                        refl,
                        (
                          refl,
                          (
                            refl,
                            (
                              refl,
                              (
                                refl,
                                (
                                  refl,
                                  (
                                    (record { sheet = refl; plan_clear = refl; table_clear = refl }, sym (unwitnessed_refused lo hi)),
                                    (
                                      (record { sheet = refl; plan_clear = refl; table_clear = refl }, refl),
                                      tt,
                                    ),
                                  ),
                                ),
                              ),
                            ),
                          ),
                        ),
                      ),
                    ),
                  ),
                ),
              ),
            ),
          ),
        ),
      ),
    ),
  ),
)
