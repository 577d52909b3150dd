-- The rule sheets and plans of the examples read as stated, and parts are put on sheets as stated. Assumes nothing.
use Prim.Native.Nat.{ℕ}
use mathlib.Core.Path.{◌≡◌, refl, ap}
use mathlib.Core.List.{List, map}
use lib.IntN.{ℤ}
use Rattle.refusal.specs.Outcome.{Outcome}
use Rattle.refusal.specs.First.{◌or_else◌, unless}
use Rattle.fields.specs.LittleEndian.{number_at, bytes_of}
use Rattle.fields.specs.TwosComplement.{signed_of, signed_at, pattern_of}
use Rattle.cltlb.specs.Run.{Seen, is_top, is_pinned, under}
use Rattle.cltlb.specs.declared.Part.{Part}
use Rattle.rule.specs.Layout.{part_count, channel_count, kind_place, operand_place, kind_byte}
use Rattle.rule.specs.Layout as rule
use Rattle.cltlb.specs.Fits.{shift_fits, term_fits, window_fits, atom_fits, names_lower, view_fits}
use Rattle.rule.specs.Terms.{shift_of, code_of, term_bytes, term_at}
use Rattle.rule.specs.Operands.{operand_bytes, all_zero, both_terms, window_over, pinned_over, operand_at}
use Rattle.rule.specs.Kinds.{shape_of, kind_unknown, part_of}
use Rattle.rule.specs.Take.{taken_operand, take_of, part_taken, parts_of}
use Rattle.rule.specs.Put.{put_outcome, overwritten, written, after_put, put_bytes}
use Rattle.plan.specs.Layout.{channels, start_rows, cycle_rows, lead_rows, rows, stored_rows, array_length, entry, tops, top_of, readings, drifts, cell, stored_reading, stored_drift, reading_of, drift_of}
use Rattle.plan.specs.Positions.{row_of, pass_of}
use Rattle.plan.specs.Run.{reading_on, reading_at, lead_at, run_of}
use Rattle.worked_examples.specs.Rows.{All}
use Rattle.worked_examples.specs.SheetsRead.{parts_from, all_parts, SheetRow, reads, ReadsAs, sheets}
use Rattle.worked_examples.specs.SheetsPut.{PutRow, puts, PutsAs, sheets_put}
use Rattle.worked_examples.specs.PlansRead.{tops_from, PlanRow, sized, SizedAs, plans, seen_from, Sight, sees, SeesAs, sights}
use Rattle.worked_examples.proofs.EveryRow.{all_same}

-- what is read of a row's bytes, and what the row states
unfoldable sheet_read : SheetRow → ℕ × List Part
sheet_read (reads sheet v parts) = (channel_count sheet, all_parts sheet)

unfoldable sheet_stated : SheetRow → ℕ × List Part
sheet_stated (reads sheet v parts) = (v, parts)

sheet_read_lem : (row : SheetRow) → sheet_read row ≡ sheet_stated row → ReadsAs row
unfolding sheet_read sheet_stated ReadsAs
sheet_read_lem (reads sheet v parts) e = (ap (λ (r : ℕ × List Part). r.0) e, ap (λ (r : ℕ × List Part). r.1) e)

sheets_computed : map sheet_read sheets ≡ map sheet_stated sheets
unfolding sheet_read sheet_stated sheets parts_from all_parts number_at signed_of signed_at part_count channel_count kind_place operand_place kind_byte rule.sizes_fit shift_of shift_fits term_fits window_fits atom_fits names_lower view_fits term_at all_zero both_terms window_over pinned_over operand_at shape_of kind_unknown part_of taken_operand take_of part_taken parts_of
sheets_computed = refl

pub sheets_read : All ReadsAs sheets
sheets_read = all_same sheet_read sheet_stated ReadsAs sheet_read_lem sheets sheets_computed

-- what a put answers and leaves, and what the row states
unfoldable put_done : PutRow → Outcome × List ℕ
put_done (puts sheet n part answer after) = (put_outcome sheet n part, put_bytes sheet n part)

unfoldable put_stated : PutRow → Outcome × List ℕ
put_stated (puts sheet n part answer after) = (answer, after)

part_put : (row : PutRow) → put_done row ≡ put_stated row → PutsAs row
unfolding put_done put_stated PutsAs
part_put (puts sheet n part answer after) e = (ap (λ (r : Outcome × List ℕ). r.0) e, ap (λ (r : Outcome × List ℕ). r.1) e)

puts_computed : map put_done sheets_put ≡ map put_stated sheets_put
unfolding put_done put_stated sheets_put put_outcome overwritten written after_put put_bytes ◌or_else◌ unless number_at bytes_of pattern_of part_count channel_count kind_place operand_place rule.sizes_fit shift_fits term_fits window_fits atom_fits names_lower view_fits code_of term_bytes operand_bytes
puts_computed = refl

pub parts_put : All PutsAs sheets_put
parts_put = all_same put_done put_stated PutsAs part_put sheets_put puts_computed

unfoldable plan_read : PlanRow → ℕ × ℕ × ℕ × ℕ × List ℤ
plan_read (sized plan v p c l tops) = (channels plan, start_rows plan, cycle_rows plan, lead_rows plan, tops_from plan 0 (channels plan))

unfoldable plan_stated : PlanRow → ℕ × ℕ × ℕ × ℕ × List ℤ
plan_stated (sized plan v p c l tops) = (v, p, c, l, tops)

plan_read_lem : (row : PlanRow) → plan_read row ≡ plan_stated row → SizedAs row
unfolding plan_read plan_stated SizedAs
plan_read_lem (sized plan v p c l tops) e = (ap (λ (r : ℕ × ℕ × ℕ × ℕ × List ℤ). r.0) e, ap (λ (r : ℕ × ℕ × ℕ × ℕ × List ℤ). r.1) e, ap (λ (r : ℕ × ℕ × ℕ × ℕ × List ℤ). r.2) e, ap (λ (r : ℕ × ℕ × ℕ × ℕ × List ℤ). r.3) e, ap (λ (r : ℕ × ℕ × ℕ × ℕ × List ℤ). r.4) e)

plans_computed : map plan_read plans ≡ map plan_stated plans
unfolding plan_read plan_stated plans tops_from number_at signed_of signed_at channels start_rows cycle_rows lead_rows entry tops top_of
plans_computed = refl

pub plans_read : All SizedAs plans
plans_read = all_same plan_read plan_stated SizedAs plan_read_lem plans plans_computed

unfoldable sight_seen : Sight → List Seen
sight_seen (sees plan position seen) = seen_from plan position 0 (channels plan)

unfoldable sight_stated : Sight → List Seen
sight_stated (sees plan position seen) = seen

sight_seen_lem : (row : Sight) → sight_seen row ≡ sight_stated row → SeesAs row
unfolding sight_seen sight_stated SeesAs
sight_seen_lem (sees plan position seen) e = e

sights_computed : map sight_seen sights ≡ map sight_stated sights
unfolding sight_seen sight_stated sights seen_from is_top is_pinned under number_at signed_of signed_at channels start_rows cycle_rows lead_rows rows stored_rows array_length entry tops top_of readings drifts cell stored_reading stored_drift reading_of drift_of row_of pass_of reading_on reading_at lead_at run_of
sights_computed = refl

pub sights_seen : All SeesAs sights
sights_seen = all_same sight_seen sight_stated SeesAs sight_seen_lem sights sights_computed
