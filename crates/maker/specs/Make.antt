-- The maker: its refusals in the order of checking, its answer, and the bytes that it leaves in the lent buffer. Assumes nothing.
use Rattle.std.specs.Prelude.{Bool, Result, Ok, Err, ℕ, ◌+◌, ◌*◌, ◌-◌, List, eqb, length}
use Rattle.refusal.specs.declared.Refusal.{Refusal}
use Rattle.refusal.specs.Outcome.{Outcome, unrefused}
use Rattle.refusal.specs.declared.Refusal.TheVariants.{BufferLength, NoTable}
use Rattle.refusal.specs.Report.{report_of}
use Rattle.refusal.specs.First.{◌or_else◌, unless, in_turn}
use Rattle.rule.specs.Layout.{part_count}
use Rattle.rule.specs.Take.{views_of}
use Rattle.plan.specs.Layout.{rows}
use Rattle.inputs.specs.Outcome.{inputs_outcome}
use Rattle.table.specs.Bytes.{zeroed}
use Rattle.marks.specs.Parts.{closing_outcome}
use Rattle.labelling.specs.Labels.{made_mark, made_table}

-- 14, with part and row as in 10
unfoldable pub as_no_table : Outcome → Outcome
as_no_table (Ok _) = unrefused
as_no_table (Err r) = Err (NoTable (report_of r).part (report_of r).row)

module _ (rule plan : List ℕ) where
  -- 14 of part i: it does not close, by the marks made of the lower parts
  unfoldable pub open_outcome : ℕ → Outcome
  open_outcome i = as_no_table (closing_outcome plan (made_mark (views_of rule) plan) (views_of rule i) i)

  -- 14, when a part does not close: the lowest such part, named by another or not
  unfoldable pub closings_outcome : Outcome
  closings_outcome = in_turn open_outcome (part_count rule)

module _ (rule plan before : List ℕ) where
  -- 1 to 6, then 13, when the buffer's length is not 4 + N × W + 2 × N
  unfoldable pub lent_outcome : Outcome
  lent_outcome =
      inputs_outcome rule plan
      or_else unless (eqb (length before) (4 + part_count rule * rows plan + 2 * part_count rule)) BufferLength

  unfoldable pub make_outcome : Outcome
  make_outcome = lent_outcome or_else closings_outcome rule plan

  -- made, with the last part's mark on row 0, the verdict; or the first refusal
  unfoldable pub answered : Outcome → Result Bool Refusal
  answered (Ok _) = Ok (made_mark (views_of rule) plan (part_count rule - 1) 0)
  answered (Err r) = Err r

  unfoldable pub make_of : Result Bool Refusal
  make_of = answered make_outcome

  -- The buffer afterwards: as it was on 1 to 6 and 13, all zero bytes on 14, else the table.
  unfoldable pub left_by : Outcome → Outcome → List ℕ
  left_by (Err r) closings = before
  left_by (Ok _) (Err r) = zeroed before
  left_by (Ok _) (Ok _) = made_table (views_of rule) plan (part_count rule)

  unfoldable pub bytes_after : List ℕ
  bytes_after = left_by lent_outcome (closings_outcome rule plan)
