-- The whole check of a rule sheet, a plan and a mark table: the refusals in the order of checking. Assumes nothing.
use Rattle.std.specs.Prelude.{Result, Ok, Err, ℕ, ◌-◌, List, Bool}
use Rattle.refusal.specs.declared.Refusal.{Refusal}
use Rattle.refusal.specs.Outcome.{Outcome}
use Rattle.refusal.specs.First.{◌or_else◌, in_turn}
use Rattle.rule.specs.Layout.{part_count}
use Rattle.rule.specs.Take.{views_of}
use Rattle.plan.specs.Layout.{rows}
use Rattle.inputs.specs.Outcome.{inputs_outcome}
use Rattle.table.specs.Layout.{marked, witness_of, table_outcome}
use Rattle.marks.specs.Parts.{part_outcome}

module _ (rule plan table : List ℕ) where
  -- the mark of a part on a row, and a part's witness
  unfoldable pub mark_of : ℕ → ℕ → Bool
  mark_of part row = marked (rows plan) table part row

  unfoldable pub witness_at : ℕ → ℕ
  witness_at part = witness_of (part_count rule) (rows plan) table part

  -- 10, 9 and 11: parts are gone through in order, the lowest first, each with all its rows
  unfoldable pub parts_outcome : Outcome
  parts_outcome = in_turn (λ i. part_outcome plan mark_of (views_of rule i) i (witness_at i)) (part_count rule)

  -- Refusals 1 to 6, 7 and 8, then 9 to 11 part by part.
  unfoldable pub check_outcome : Outcome
  check_outcome =
      inputs_outcome rule plan
      or_else table_outcome (part_count rule) (rows plan) table
      or_else parts_outcome

  -- accepted with the last part's mark on row 0, the verdict, which says whether the run satisfies the rule; or the first refusal
  unfoldable pub answered : Outcome → Result Bool Refusal
  answered (Ok _) = Ok (mark_of (part_count rule - 1) 0)
  answered (Err r) = Err r

  unfoldable pub check_of : Result Bool Refusal
  check_of = answered check_outcome
