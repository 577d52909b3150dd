-- "Judge" answers for one atom, which is a comparison, a window or that a reading is pinned, and one row: its refusals in the order
-- of checking, its answer, and what it promises on all inputs. Assumes nothing.
use Rattle.std.specs.Prelude.{Result, Ok, Err, ℕ, ◌≡◌, List, ◌&&◌, ltb}
use Rattle.refusal.specs.declared.Refusal.{Refusal}
use Rattle.cltlb.specs.Truth.{Holds}
use Rattle.cltlb.specs.Views.{is_atom}
use Rattle.cltlb.specs.Parts.{formula_of}
use Rattle.cltlb.specs.declared.View.{View}
use Rattle.cltlb.specs.declared.View.TheVariants as view
use Rattle.refusal.specs.Outcome.{Outcome}
use Rattle.refusal.specs.declared.Refusal.TheVariants.{Absent}
use Rattle.refusal.specs.First.{◌or_else◌, unless}
use Rattle.rule.specs.Layout.{part_count}
use Rattle.rule.specs.Take.{views_of}
use Rattle.plan.specs.Layout.{start_rows, cycle_rows, rows}
use Rattle.plan.specs.Run.{run_of}
use Rattle.inputs.specs.Outcome.{inputs_outcome}
use Rattle.verdict.specs.Meaning.{VerdictMeans}
use Rattle.verdict.specs.Rows.{verdict_of}
use Rattle.verdict.specs.declared.Verdict.{Verdict}
use Rattle.verdict.specs.declared.Verdict.TheVariants.{AlwaysFalse}

-- the verdict on the atom that a part is, on a row; an operator is refused before it is asked
unfoldable pub verdict_on : List ℕ → View → ℕ → Verdict
verdict_on plan (view.Atom x) row = verdict_of plan x row
verdict_on plan (view.Operator o) row = AlwaysFalse

module _ (rule plan : List ℕ) (part row : ℕ) where
  -- Judge: 1 to 6, then 12: the part or row named by the caller is absent, or the part to be judged is no atom.
  unfoldable pub judge_outcome : Outcome
  judge_outcome =
      inputs_outcome rule plan
      or_else unless (ltb part (part_count rule) && (ltb row (rows plan) && is_atom (views_of rule part))) Absent

  unfoldable pub judged_as : Outcome → Result Verdict Refusal
  judged_as (Ok _) = Ok (verdict_on plan (views_of rule part) row)
  judged_as (Err r) = Err r

  unfoldable pub judge_of : Result Verdict Refusal
  judge_of = judged_as judge_outcome

  pub record JudgePromise (answer : Result Verdict Refusal) : Type 0 where
    pub is_judge : answer ≡ judge_of
    -- where it is no refusal: what the verdict says of the part's published truth on every pass of the row
    pub meaning : (v : Verdict) → answer ≡ Ok v
        → VerdictMeans (start_rows plan) (cycle_rows plan) row (Holds (run_of plan) (formula_of (views_of rule) part)) v
