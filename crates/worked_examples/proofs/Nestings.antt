-- Y, Z, S and T are nested in the examples' sheets as stated, and what settling's promise asks of its inputs is met. Assumes nothing.
use Prim.Native.Nat.{ℕ, zero, suc, ◌+◌}
use mathlib.Core.Path.{◌≡◌, refl, ap}
use mathlib.Core.List.{List, map}
use native.Mathlib.Omega.{arith}
use Rattle.refusal.specs.Lowest.{or_after, lowest_from, lowest}
use Rattle.refusal.specs.First.{◌or_else◌, unless, refused_at, at_lowest}
use Rattle.fields.specs.LittleEndian.{number_at}
use Rattle.fields.specs.TwosComplement.{signed_of, signed_at}
use Rattle.cltlb.specs.Fits.{shift_fits, term_fits, window_fits, atom_fits, names_lower, view_fits}
use Rattle.cltlb.specs.Nesting.{nesting_from, nesting_to, nesting, deepest}
use Rattle.rule.specs.Layout.{part_count, channel_count, kind_place, operand_place, kind_byte}
use Rattle.rule.specs.Layout as rule
use Rattle.rule.specs.Terms.{shift_of, term_at}
use Rattle.rule.specs.Operands.{all_zero, both_terms, window_over, pinned_over, operand_at}
use Rattle.rule.specs.Kinds.{shape_of, kind_unknown, part_of}
use Rattle.rule.specs.Take.{taken_operand, take_of, part_taken, parts_of, views_of}
use Rattle.rule.specs.Sheet.{is_refused, untakeable, sheet_outcome}
use Rattle.plan.specs.Layout.{channels, start_rows, cycle_rows, lead_rows, rows, stored_rows, array_length, entry, tops, any_below, negative_top, tops_fit, drifts, cell, stored_drift, drift_of}
use Rattle.plan.specs.Layout as plan
use Rattle.plan.specs.Refusals.{is_zero, drifts_at, drifting, plan_outcome}
use Rattle.settling.specs.Promise.{NoDrift, most_passes}
use Rattle.settling.specs.Promise as settling
use Rattle.worked_examples.specs.Rows.{All}
use Rattle.worked_examples.specs.Table.{rule_e8, plan_a}
use Rattle.worked_examples.specs.MorePlans.{plan_high}
use Rattle.worked_examples.specs.Layouts.{lent_plan, lent_scratch}
use Rattle.worked_examples.specs.Nestings.{nestings_from, NestRow, nests, NestsAs, nested}
use Rattle.worked_examples.proofs.EveryRow.{all_same}

-- what is found of a row's sheet, and what the row states
unfoldable nesting_found : NestRow → List ℕ × ℕ × ℕ
nesting_found (nests sheet parts deep) = (nestings_from sheet 0 (part_count sheet), deepest (views_of sheet) (part_count sheet), most_passes sheet)

unfoldable nesting_stated : NestRow → List ℕ × ℕ × ℕ
nesting_stated (nests sheet parts deep) = (parts, deep, 4 + deep)

nesting_found_lem : (row : NestRow) → nesting_found row ≡ nesting_stated row → NestsAs row
unfolding nesting_found nesting_stated NestsAs
nesting_found_lem (nests sheet parts deep) e = (ap (λ (r : List ℕ × ℕ × ℕ). r.0) e, ap (λ (r : List ℕ × ℕ × ℕ). r.1) e, ap (λ (r : List ℕ × ℕ × ℕ). r.2) e)

nestings_computed : map nesting_found nested ≡ map nesting_stated nested
unfolding nesting_found nesting_stated nested nestings_from most_passes nesting_from nesting_to nesting deepest views_of number_at signed_of signed_at part_count channel_count kind_place operand_place kind_byte rule.sizes_fit shift_of shift_fits term_fits window_fits atom_fits names_lower view_fits term_at all_zero both_terms window_over pinned_over operand_at shape_of kind_unknown part_of taken_operand take_of part_taken parts_of
nestings_computed = refl

pub nestings_found : All NestsAs nested
nestings_found = all_same nesting_found nesting_stated NestsAs nesting_found_lem nested nestings_computed

-- a rule, a plan and two buffers that clear 1 to 6 and 13
pub settle_lent : settling.Lent rule_e8 plan_high lent_plan lent_scratch
unfolding or_after lowest_from lowest ◌or_else◌ unless refused_at at_lowest number_at signed_of signed_at part_count channel_count kind_place operand_place kind_byte rule.sizes_fit shift_of shift_fits term_fits window_fits atom_fits names_lower view_fits term_at all_zero both_terms window_over pinned_over operand_at shape_of kind_unknown part_of taken_operand take_of is_refused untakeable sheet_outcome channels start_rows cycle_rows lead_rows rows stored_rows array_length entry tops any_below negative_top tops_fit drifts cell stored_drift is_zero drifts_at drifting plan_outcome plan.sizes_fit
settle_lent = record { sheet = refl; plan_clear = refl; plan_buffer = refl; scratch_buffer = refl }

-- a plan in which nothing drifts: three rows of one channel
pub still_a : NoDrift plan_a
unfolding NoDrift number_at signed_of signed_at channels start_rows cycle_rows lead_rows rows stored_rows array_length entry drifts cell stored_drift drift_of
still_a zero zero l m = refl
still_a (suc zero) zero l m = refl
still_a (suc (suc zero)) zero l m = refl
still_a (suc (suc (suc row))) zero l m = absurd (omega (arith, l))
still_a zero (suc c) l m = absurd (omega (arith, m))
still_a (suc row) (suc c) l m = absurd (omega (arith, m))
