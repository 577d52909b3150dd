-- What the exported functions promise of the numbers that they return, on all inputs. Assumes nothing.
use Rattle.std.specs.Prelude.{Err, ℕ, ◌+◌, ◌*◌, ◌-◌, ◌≤◌, ◌<◌, ◌≡◌, true, List, ◌++◌, ◌↔◌, ℤ, length, drop}
use Rattle.refusal.specs.Outcome.{unrefused}
use Rattle.cltlb.specs.Truth.{Holds}
use Rattle.cltlb.specs.Parts.{formula_of}
use Rattle.rule.specs.Layout.{part_count, channel_count}
use Rattle.rule.specs.Take.{views_of}
use Rattle.plan.specs.Layout.{channels, start_rows, cycle_rows, lead_rows, rows, top_of, stored_reading}
use Rattle.plan.specs.Refusals.{plan_outcome}
use Rattle.plan.specs.Run.{reading_at, run_of}
use Rattle.laid_out.specs.LaidOut.{rows_after, laid_out, can_be_laid}
use Rattle.refusal.specs.declared.Refusal.{Refusal}
use Rattle.refusal.specs.Report.{report, report_of}
use Rattle.verdict.specs.declared.Verdict.{Verdict}
use Rattle.verdict.specs.Meaning.{VerdictMeans}
use Rattle.judge.specs.Judge.{judge_of}
use Rattle.acceptance.specs.Check.{check_of}
use Rattle.acceptance.specs.Promise.{Cleared, RuleTruth, TableRight, EquationMeans, ClosingMeans, WitnessMeans}
use Rattle.maker.specs.Make.{make_of, bytes_after}
use Rattle.maker.specs.Promise.{Lent, NoneAccepted, LowestWitness, OpenMeans}
use Rattle.settling.specs.Settle.{settle_of, laid_after, scratch_after}
use Rattle.settling.specs.Promise.{SettledAfter, FewestSettle, NoDrift, most_passes}
use Rattle.settling.specs.Promise as settling
use Rattle.endless_run.specs.Packing.{unpacked, check_word, make_word, settle_word, verdict_word, judge_word}

-- endless_run_check
pub record CheckWordPromise (rule plan table : List ℕ) (word : ℕ) : Type 0 where
  pub is_check : word ≡ check_word (check_of rule plan table)
  -- whatever clears refusals 1 to 8: 0 or 1 exactly where the table is right
  pub accepts : Cleared rule plan table → (word < 2) ↔ TableRight rule plan table
  -- 1 where the whole rule holds at position 0, 0 where it does not
  pub holds : word < 2 → (word ≡ 1) ↔ RuleTruth rule plan (part_count rule - 1) 0
  -- a refusal, taken apart, is the document's number, part and row
  pub reports : (r : Refusal) → check_of rule plan table ≡ Err r → unpacked word ≡ report_of r
  -- what 9, 10 and 11 of part i say of the published truth
  pub equation : (i row : ℕ) → unpacked word ≡ report 9 i row → EquationMeans rule plan table i row
  pub closing : (i row : ℕ) → unpacked word ≡ report 10 i row → ClosingMeans rule plan table i row
  pub witness : (i : ℕ) → unpacked word ≡ report 11 i 0 → WitnessMeans rule plan table i

-- endless_run_make, with the lent buffer before and after
pub record MakeWordPromise (rule plan before after : List ℕ) (word : ℕ) : Type 0 where
  pub is_make : word ≡ make_word (make_of rule plan before)
  -- the buffer is as it was, all zero bytes, or the table
  pub bytes : after ≡ bytes_after rule plan before
  -- 0 or 1: it is a table of which endless_run_check answers the same number; its marks are the published truth on all passes,
  -- 1 says that the whole rule holds at position 0, and each witness is the lowest that serves
  pub accepted : word < 2 → check_word (check_of rule plan after) ≡ word
  pub right : word < 2 → TableRight rule plan after
  pub holds : word < 2 → (word ≡ 1) ↔ RuleTruth rule plan (part_count rule - 1) 0
  pub lowest : word < 2 → (i : ℕ) → i < part_count rule → LowestWitness rule plan after i
  -- whatever clears refusals 1 to 6 and 13: 14 exactly where no mark table is accepted
  pub refuses : Lent rule plan before → ((i row : ℕ) × (unpacked word ≡ report 14 i row)) ↔ NoneAccepted rule plan
  -- a refusal, taken apart, is the document's number, part and row
  pub reports : (r : Refusal) → make_of rule plan before ≡ Err r → unpacked word ≡ report_of r
  -- what 14 of part i says of the published truth
  pub opened : (i row : ℕ) → unpacked word ≡ report 14 i row → OpenMeans rule plan i row

-- endless_run_settle, with the two lent buffers before and after, which a prime marks
pub record SettleWordPromise (rule plan laid scratch laid' scratch' : List ℕ) (word : ℕ) : Type 0 where
  pub is_settle : word ≡ settle_word (settle_of rule plan laid scratch)
  -- the plan buffer is as it was, or holds the new plan at its front; the scratch is as it was, or all zero bytes
  pub plan_bytes : laid' ≡ laid_after rule plan laid scratch
  pub scratch_bytes : scratch' ≡ scratch_after rule plan laid scratch
  -- a number below 256 is how many passes are laid out: the new plan is at the front of the buffer,
  pub front : word < 256 → laid' ≡ laid_out plan word ++ drop (length (laid_out plan word)) laid
  -- clears refusals 4 to 6 for the rule, has as many channels and cycle rows as the first, and so many passes of the cycle as start
  -- rows more, and has the same reading at every position and channel as the first, the exact value, also where it is pinned, the same
  -- lead-in rows with the same readings and the same tops, so that the same is seen at every position, before the start too;
  pub clears : word < 256 → plan_outcome (channel_count rule) (laid_out plan word) ≡ unrefused
  pub laid_passes : word < 256
      → (channels (laid_out plan word) ≡ channels plan)
      × (cycle_rows (laid_out plan word) ≡ cycle_rows plan)
      × (start_rows (laid_out plan word) ≡ start_rows plan + word * cycle_rows plan)
  pub same_reading : word < 256 → (channel : ℕ) → channel < channels plan → (t : ℕ) → reading_at (laid_out plan word) channel t ≡ reading_at plan channel t
  pub same_lead : word < 256
      → (lead_rows (laid_out plan word) ≡ lead_rows plan)
      × ((k channel : ℕ) → k < lead_rows plan → channel < channels plan → stored_reading (laid_out plan word) k channel ≡ stored_reading plan k channel)
  pub same_tops : word < 256 → (channel : ℕ) → channel < channels plan → top_of (laid_out plan word) channel ≡ top_of plan channel
  pub same_run : word < 256 → (channel : ℕ) → channel < channels plan → (t : ℤ) → run_of (laid_out plan word) channel t ≡ run_of plan channel t
  -- its passes are the fewest after which every part closes, so that endless_run_make answers 0 or 1 for it;
  pub fewest : word < 256 → FewestSettle rule plan word
  pub makes : word < 256 → (table : List ℕ) → length table ≡ 4 + part_count rule * rows (laid_out plan word) + 2 * part_count rule
      → make_word (make_of rule (laid_out plan word) table) < 2
  -- 0 says that the new plan is the first plan
  pub copied : word ≡ 0 → laid_out plan 0 ≡ plan
  -- whatever clears refusals 1 to 6 and 13: 15 exactly where no number works that keeps the rows at 256 or fewer and all readings
  -- in 32 bits
  pub refuses : settling.Lent rule plan laid scratch
      → (unpacked word ≡ report 15 0 0) ↔ ((n : ℕ) → can_be_laid plan n ≡ true → ¬ SettledAfter rule plan n)
  -- when all drifts are 0, the passes are at most 4 plus the deepest nesting, and 15 says that 256 rows are not enough for so many
  pub bound : NoDrift plan → word < 256 → word ≤ most_passes rule
  pub too_long : NoDrift plan → unpacked word ≡ report 15 0 0 → 256 < rows_after plan (most_passes rule)
  -- a refusal, taken apart, is the document's number, part and row
  pub reports : (r : Refusal) → settle_of rule plan laid scratch ≡ Err r → unpacked word ≡ report_of r

-- endless_run_judge: 0 always false, 1 always true, 2 changes
pub record JudgeWordPromise (rule plan : List ℕ) (part row word : ℕ) : Type 0 where
  pub is_judge : word ≡ judge_word (judge_of rule plan part row)
  -- the verdict that the number stands for, and what it says of the published truth of the part at every position that lies on
  -- the row, that is, on every pass
  pub meaning : word < 3
      → (v : Verdict) × (word ≡ verdict_word v)
      × VerdictMeans (start_rows plan) (cycle_rows plan) row (Holds (run_of plan) (formula_of (views_of rule) part)) v
  -- a refusal, taken apart, is the document's number, part and row
  pub reports : (r : Refusal) → judge_of rule plan part row ≡ Err r → unpacked word ≡ report_of r
