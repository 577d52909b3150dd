-- The numbers of more examples, and the bytes left, are those that the definitions give. Assumes nothing.
use Prim.Native.Nat.{ℕ}
use mathlib.Core.Path.{◌≡◌, refl, ap}
use mathlib.Core.List.{List, [], ◌∷◌, map}
use Rattle.refusal.specs.Lowest.{or_after, lowest_from, lowest}
use Rattle.refusal.specs.First.{◌or_else◌, unless, refused_at, at_lowest, in_turn_from, in_turn}
use Rattle.fields.specs.inner.Ranges.{Bytes}
use Rattle.fields.specs.LittleEndian.{number_at, bytes_of}
use Rattle.fields.specs.Pieces.{pieces}
use Rattle.fields.specs.TwosComplement.{signed_of, signed_at, pattern_of, signed_fits}
use Rattle.cltlb.specs.Week.{minute_of}
use Rattle.cltlb.specs.Run.{is_top, is_pinned, under}
use Rattle.cltlb.specs.Truth.{value_at}
use Rattle.rule.specs.Layout.{part_count, channel_count, kind_place, operand_place, kind_byte}
use Rattle.cltlb.specs.Fits.{shift_fits, term_fits, window_fits, atom_fits, names_lower, view_fits}
use Rattle.rule.specs.Terms.{shift_of, term_at}
use Rattle.rule.specs.Operands.{all_zero, both_terms, window_over, pinned_over, operand_at}
use Rattle.rule.specs.Kinds.{shape_of, kind_unknown, part_of}
use Rattle.rule.specs.Take.{taken_operand, take_of, part_taken, parts_of, views_of}
use Rattle.rule.specs.Sheet.{is_refused, untakeable, sheet_outcome}
use Rattle.plan.specs.Layout.{channels, start_rows, cycle_rows, lead_rows, rows, stored_rows, array_length, entry, tops, top_of, any_below, negative_top, tops_fit, readings, drifts, cell, stored_reading, stored_drift, reading_of, drift_of}
use Rattle.plan.specs.Positions.{row_of, pass_of, last, after}
use Rattle.plan.specs.Run.{reading_on, reading_at, lead_at, run_of}
use Rattle.plan.specs.Bytes.{head_of, tops_of, array_of, plan_of}
use Rattle.plan.specs.Bytes as plan_bytes
use Rattle.plan.specs.Refusals.{is_zero, drifts_at, drifting, named_row, plan_outcome}
use Rattle.verdict.specs.Lines.{on_pass, judge_less, meets, judge_equal}
use Rattle.verdict.specs.Divisors.{euclid, gcd}
use Rattle.verdict.specs.Weeks.{minutes_after, judge_spaced, judge_within}
use Rattle.verdict.specs.Comparisons.{of_number, seen_pinned, of_numbers, tested}
use Rattle.verdict.specs.Stretches.{is_all, has_pass, common, passes_below, passes_at_most, passes_same}
use Rattle.verdict.specs.Tops.{passes_free, passes_pinned, some_from, some_within, some_on, judge_on, judge_pinned, judge_free, judge_under}
use Rattle.verdict.specs.Rows.{channel_line, term_line, join_first, test_at, judge_cycle, judge_row, atom_at, verdict_of}
use Rattle.judge.specs.Judge.{verdict_on, judge_outcome, judged_as, judge_of}
use Rattle.inputs.specs.Outcome.{inputs_outcome}
use Rattle.table.specs.Layout.{mark_byte, marked, witness_of, above_one, bytes_outcome, table_outcome}
use Rattle.table.specs.Bytes.{table_of, zeroed}
use Rattle.marks.specs.Equations.{mark_beside, operator_mark, expected}
use Rattle.marks.specs.Parts.{is_cycle_row, names, witness_two, running, closes_by, closes, witness_of_operator, witness_in_order, steady_outcome, breaks, equation_outcome, closing_outcome, witness_outcome, part_outcome}
use Rattle.acceptance.specs.Check.{mark_of, witness_at, parts_outcome, check_outcome, answered, check_of}
use Rattle.labelling.specs.Labels.{following, label_by, operator_label, label_of, or_none, lowest_witness, label_to, made_mark, made_witness, made_table}
use Rattle.maker.specs.Make.{as_no_table, open_outcome, closings_outcome, lent_outcome, make_outcome, make_of, left_by, bytes_after}
use Rattle.laid_out.specs.LaidOut.{start_after, rows_after, laid_reading, laid_drift, laid_out, too_large, can_be_laid}
use Rattle.settling.specs.Settle.{settles_after, fewest_passes, settle_of, laid_with, laid_after, scratch_with, scratch_after}
use Rattle.settling.specs.Settle as settle
use Rattle.rule.specs.Layout as rule
use Rattle.plan.specs.Layout as plan
use Rattle.table.specs.Layout as marks
use Rattle.maker.specs.Make as make
use Rattle.judge.proofs.Promised.{judge_promise}
use Rattle.acceptance.proofs.Promised.{check_promise}
use Rattle.maker.proofs.Promised.{make_promise}
use Rattle.settling.proofs.Promised.{settle_promise}
use Rattle.endless_run.specs.Packing.{refusal_word, check_word, make_word, settle_word, judge_word}
use Rattle.endless_run.proofs.Words.{check_word_lem, make_word_lem, judge_word_lem}
use Rattle.endless_run.proofs.SettleWords.{settle_word_lem}
use Rattle.worked_examples.specs.Rows.{All}
use Rattle.worked_examples.specs.Calls.{Call, checks, makes, settles, judges, Gives}
use Rattle.worked_examples.specs.Handed.{call_bytes}
use Rattle.worked_examples.specs.MoreSheets.{copies}
use Rattle.worked_examples.specs.More.{more}
use Rattle.worked_examples.proofs.EveryRow.{all_same_of}
use Rattle.worked_examples.proofs.Bytes.{more_bytes}

-- the number that a row states with the byte strings left, and those that the definitions give
unfoldable stated : Call → ℕ × List (List ℕ)
stated (checks rule plan marks word) = (word, [])
stated (makes rule plan before left word) = (word, left ∷ [])
stated (settles rule plan laid scratch laid' scratch' word) = (word, laid' ∷ scratch' ∷ [])
stated (judges rule plan part row word) = (word, [])

unfoldable defined : Call → ℕ × List (List ℕ)
defined (checks rule plan marks word) = (check_word (check_of rule plan marks), [])
defined (makes rule plan before left word) = (make_word (make_of rule plan before), bytes_after rule plan before ∷ [])
defined (settles rule plan laid scratch laid' scratch' word) =
    (settle_word (settle_of rule plan laid scratch), laid_after rule plan laid scratch ∷ scratch_after rule plan laid scratch ∷ [])
defined (judges rule plan part row word) = (judge_word (judge_of rule plan part row), [])

same_word : {x y : ℕ × List (List ℕ)} → x ≡ y → x.0 ≡ y.0
same_word e = ap (λ (r : ℕ × List (List ℕ)). r.0) e

same_left : {x y : ℕ × List (List ℕ)} → x ≡ y → x.1 ≡ y.1
same_left e = ap (λ (r : ℕ × List (List ℕ)). r.1) e

first_same : {left bytes : List ℕ} {more others : List (List ℕ)} → left ∷ more ≡ bytes ∷ others → left ≡ bytes
first_same e = cc

rest_same : {left bytes : List ℕ} {more others : List (List ℕ)} → left ∷ more ≡ bytes ∷ others → more ≡ others
rest_same e = cc

-- A row hands over bytes.
given : (call : Call) → All Bytes (call_bytes call) → stated call ≡ defined call → Gives call
unfolding stated defined Gives call_bytes All
given (checks rule plan marks word) bytes e = check_word_lem rule plan marks (same_word e) (check_promise rule plan marks refl)
given (makes rule plan before left word) bytes e =
    make_word_lem rule plan before left (same_word e) (make_promise rule plan before refl (first_same (same_left e)))
given (settles rule plan laid scratch laid' scratch' word) bytes e =
    let left = same_left e in
    settle_word_lem rule plan laid scratch laid' scratch' (same_word e)
    (settle_promise rule plan laid scratch bytes.1.0 refl (first_same left) (first_same (rest_same left)))
given (judges rule plan part row word) bytes e = judge_word_lem rule plan part row (same_word e) (judge_promise rule plan part row refl)

computed : map stated more ≡ map defined more
unfolding stated defined more copies refusal_word check_word settle_word judge_word or_after lowest_from lowest ◌or_else◌ unless refused_at at_lowest in_turn_from in_turn number_at signed_of signed_at pattern_of signed_fits minute_of is_top is_pinned under value_at part_count channel_count kind_place operand_place kind_byte shift_of shift_fits term_fits window_fits atom_fits names_lower view_fits term_at all_zero both_terms window_over pinned_over operand_at shape_of kind_unknown part_of taken_operand take_of part_taken parts_of views_of is_refused untakeable sheet_outcome channels start_rows cycle_rows lead_rows rows stored_rows array_length entry tops top_of any_below negative_top tops_fit readings drifts cell stored_reading stored_drift reading_of drift_of row_of pass_of last after reading_on reading_at lead_at run_of is_zero drifts_at drifting named_row plan_outcome on_pass judge_less meets judge_equal euclid gcd minutes_after judge_spaced judge_within of_number seen_pinned of_numbers tested is_all has_pass common passes_below passes_at_most passes_same passes_free passes_pinned some_from some_within some_on judge_on judge_pinned judge_free judge_under channel_line term_line join_first test_at judge_cycle judge_row atom_at verdict_of verdict_on inputs_outcome judge_outcome judged_as judge_of mark_byte marked witness_of above_one bytes_outcome table_outcome mark_beside operator_mark expected is_cycle_row names witness_two running closes_by closes witness_of_operator witness_in_order steady_outcome breaks equation_outcome closing_outcome witness_outcome part_outcome mark_of witness_at parts_outcome check_outcome answered check_of bytes_of pieces table_of zeroed following label_by operator_label label_of or_none lowest_witness label_to made_mark made_witness made_table as_no_table open_outcome closings_outcome lent_outcome make_outcome make.answered make_of left_by bytes_after plan_bytes.word head_of tops_of array_of plan_of start_after rows_after laid_reading laid_drift laid_out too_large can_be_laid settles_after fewest_passes settle.lent_outcome settle.answered settle_of laid_with laid_after scratch_with scratch_after rule.sizes_fit plan.sizes_fit marks.sizes_fit
computed = refl

pub words : All Gives more
words = all_same_of stated defined (λ call. All Bytes (call_bytes call)) Gives given more more_bytes computed
