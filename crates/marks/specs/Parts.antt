-- The checks on one part, 10, 9 and 11, in that order: closing (the consistency of the loop), equations and witnesses (of
-- eventualities). Assumes nothing.
use Rattle.std.specs.Prelude.{ℕ, zero, suc, ◌+◌, List, Bool, true, cond, not, ◌&&◌, leb, ltb, eqb}
use Rattle.std.specs.Bool.{beq}
use Rattle.refusal.specs.Outcome.{Outcome}
use Rattle.refusal.specs.declared.Refusal.TheVariants.{Equation, Closing, Witness}
use Rattle.refusal.specs.Lowest.{lowest_from}
use Rattle.refusal.specs.First.{◌or_else◌, unless, refused_at, at_lowest}
use Rattle.cltlb.specs.declared.Atom.{Atom}
use Rattle.cltlb.specs.declared.Binary.{Binary}
use Rattle.cltlb.specs.declared.Binary.TheVariants.{And, Or, Until, Release, Since, Trigger}
use Rattle.cltlb.specs.declared.Operator.{Operator}
use Rattle.cltlb.specs.declared.Operator.TheVariants.{One, Two}
use Rattle.cltlb.specs.declared.View.{View}
use Rattle.cltlb.specs.declared.View.TheVariants as view
use Rattle.plan.specs.Layout.{start_rows, cycle_rows, rows}
use Rattle.plan.specs.Positions.{last}
use Rattle.verdict.specs.Meaning.{is_changes}
use Rattle.verdict.specs.Rows.{atom_at, verdict_of}
use Rattle.marks.specs.declared.operators.Beside.{Beside}
use Rattle.marks.specs.declared.operators.Beside.TheVariants.{After, Before}
use Rattle.marks.specs.Equations.{beside_of, step_on, watched_truth, expected}

-- 65535 means none
abbrev pub no_witness : ℕ
no_witness = 65535

-- The truth of an operator that looks back, on a row, by the marks of the parts that it names, row after row from row 0 on.
unfoldable pub running : (ℕ → ℕ → Bool) → Operator → Bool → ℕ → Bool
running mark o first zero = step_on mark o zero first
running mark o first (suc row) = step_on mark o (suc row) (watched_truth mark o (running mark o first row) row)

-- with P start rows and C cycle rows
module _ (P C : ℕ) where
  -- a row from P to W - 1
  unfoldable pub is_cycle_row : ℕ → Bool
  is_cycle_row row = leb P row && ltb row (P + C)

  -- a row from P to W - 1 of which a test is true
  unfoldable pub names : (ℕ → Bool) → ℕ → Bool
  names test w = is_cycle_row w && test w

  -- a U b marked 1 on row W - 1 names a row from P to W - 1 where b is marked 1. a R b marked 0 there names one where b is
  -- marked 0. Any such row will do. Every other part has 65535.
  unfoldable pub witness_two : Binary → Bool → (ℕ → Bool) → ℕ → Bool
  witness_two Until marked b w = cond marked (names b w) (eqb w no_witness)
  witness_two Release marked b w = cond marked (eqb w no_witness) (names (λ row. not (b row)) w)
  witness_two And marked b w = eqb w no_witness
  witness_two Or marked b w = eqb w no_witness
  witness_two Since marked b w = eqb w no_witness
  witness_two Trigger marked b w = eqb w no_witness

  module _ (mark : ℕ → ℕ → Bool) where
    -- The equation for a row above 0 also holds on row P with row W - 1 as the row before; `start` and `end` are the truth on the two.
    abbrev pub turns_round : Operator → Bool → Bool → Bool
    turns_round o start end = beq start (step_on mark o P (watched_truth mark o end (last P C)))

    -- Closing, the consistency of the loop, for Y, Z, S and T: this is so of their truth, whatever their own marks are.
    unfoldable pub closes_by : Beside → Operator → Bool
    closes_by After o = true
    closes_by (Before first) o = turns_round o (running mark o first P) (running mark o first (last P C))

    unfoldable pub closes : Operator → Bool
    closes o = closes_by (beside_of o) o

    unfoldable pub witness_of_operator : Operator → ℕ → ℕ → Bool
    witness_of_operator (One o a) i w = eqb w no_witness
    witness_of_operator (Two o a b) i w = witness_two o (mark i (last P C)) (mark b) w

    unfoldable pub witness_in_order : View → ℕ → ℕ → Bool
    witness_in_order (view.Atom x) i w = eqb w no_witness
    witness_in_order (view.Operator o) i w = witness_of_operator o i w

module _ (plan : List ℕ) where
  -- an atom must not change on any cycle row: the lowest changing row
  unfoldable pub steady_outcome : Atom → ℕ → Outcome
  steady_outcome x i = refused_at (Closing i) (lowest_from (λ row. is_changes (verdict_of plan x row)) (start_rows plan) (cycle_rows plan))

  module _ (mark : ℕ → ℕ → Bool) where
    -- the mark of part i on a row breaks its equation
    unfoldable pub breaks : View → ℕ → ℕ → Bool
    breaks p i row = not (beq (mark i row) (expected (start_rows plan) (cycle_rows plan) mark (atom_at plan) p i row))

    -- 10 A part does not close (part; for an atom the lowest changing row, else row P), by its truth, whatever its own marks
    -- say.
    unfoldable pub closing_outcome : View → ℕ → Outcome
    closing_outcome (view.Atom x) i = steady_outcome x i
    closing_outcome (view.Operator o) i = unless (closes (start_rows plan) (cycle_rows plan) mark o) (Closing i (start_rows plan))

    -- 9 A mark breaks its equation (part, lowest row).
    unfoldable pub equation_outcome : View → ℕ → Outcome
    equation_outcome p i = at_lowest (breaks p i) (rows plan) (Equation i)

    -- 11 A witness is not as stated (part).
    unfoldable pub witness_outcome : View → ℕ → ℕ → Outcome
    witness_outcome p i w = unless (witness_in_order (start_rows plan) (cycle_rows plan) mark p i w) (Witness i)

    -- Checks 9, 10 and 11 are made on one part before the next part. Within one part, 10 comes before 9.
    unfoldable pub part_outcome : View → ℕ → ℕ → Outcome
    part_outcome p i w = closing_outcome p i or_else equation_outcome p i or_else witness_outcome p i w
