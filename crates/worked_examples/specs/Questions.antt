-- A question put to the check or to judge, with its answer, and what the answer says of the published truth; and whether marks meet
-- the equations. Assumes nothing.
use Rattle.std.specs.Prelude.{Bool, Result, Ok, Err, ℕ, ◌-◌, ◌≡◌, List, ◌↔◌, T}
use Rattle.verdict.specs.declared.Verdict.{Verdict}
use Rattle.refusal.specs.declared.Refusal.{Refusal}
use Rattle.refusal.specs.Outcome.{unrefused}
use Rattle.cltlb.specs.Truth.{Holds}
use Rattle.cltlb.specs.Parts.{formula_of}
use Rattle.rule.specs.Layout.{part_count}
use Rattle.rule.specs.Take.{views_of}
use Rattle.plan.specs.Layout.{start_rows, cycle_rows}
use Rattle.plan.specs.Run.{run_of}
use Rattle.verdict.specs.Meaning.{VerdictMeans}
use Rattle.judge.specs.Judge.{JudgePromise}
use Rattle.marks.specs.Parts.{equation_outcome}
use Rattle.acceptance.specs.Check.{mark_of}
use Rattle.acceptance.specs.Promise.{RuleTruth, Cleared, TableRight, CheckPromise}

pub data Question : Type 0 where
  -- the check of a rule sheet, a plan and a mark table
  checks : (rule plan marks : List ℕ) (answer : Result Bool Refusal) → Question
  -- judge, for a part and a row of a rule sheet and a plan
  judges : (rule plan : List ℕ) (part row : ℕ) (answer : Result Verdict Refusal) → Question
  -- the marks of a part, which meet its equation on every row
  meets : (rule plan marks : List ℕ) (part : ℕ) → Question

-- What the check's answer says. Accepted: the table is right, and the answer is the published truth of the whole rule at
-- position 0. Refused: the table is not right.
unfoldable pub CheckedMeans : List ℕ → List ℕ → List ℕ → Result Bool Refusal → Type 0
CheckedMeans rule plan marks (Ok v) = TableRight rule plan marks × (T v ↔ RuleTruth rule plan (part_count rule - 1) 0)
CheckedMeans rule plan marks (Err r) = ¬ TableRight rule plan marks

-- What judge's answer says: a verdict, of the part's published truth on every pass of the row.
unfoldable pub JudgedMeans : List ℕ → List ℕ → ℕ → ℕ → Result Verdict Refusal → Type 0
JudgedMeans rule plan part row (Ok v) =
    VerdictMeans (start_rows plan) (cycle_rows plan) row (Holds (run_of plan) (formula_of (views_of rule) part)) v
JudgedMeans rule plan part row (Err r) = ⊥

-- The answer is what the check gives and promises, the bytes clear refusals 1 to 8, and the answer's meaning is a fact.
pub record CheckSaid (rule plan marks : List ℕ) (answer : Result Bool Refusal) : Type 0 where
  pub promise : CheckPromise rule plan marks answer
  pub cleared : Cleared rule plan marks
  pub meaning : CheckedMeans rule plan marks answer

-- The answer is what judge gives and promises, it is a verdict, and the verdict's meaning is a fact.
pub record JudgeSaid (rule plan : List ℕ) (part row : ℕ) (answer : Result Verdict Refusal) : Type 0 where
  pub promise : JudgePromise rule plan part row answer
  pub meaning : JudgedMeans rule plan part row answer

unfoldable pub Says : Question → Type 0
Says (checks rule plan marks answer) = CheckSaid rule plan marks answer
Says (judges rule plan part row answer) = JudgeSaid rule plan part row answer
Says (meets rule plan marks part) = equation_outcome plan (mark_of rule plan marks) (views_of rule part) part ≡ unrefused
