-- The marks that parts have to have, made part after part from the marks of lower ones, and the lowest witnesses: the labelling
-- of the rows with subformulas. Assumes nothing.
use Rattle.std.specs.Prelude.{ℕ, zero, suc, ◌+◌, ◌-◌, Bool, true, false, List}
use Rattle.std.proofs.Math.Option.{Option, none, some}
use Rattle.cltlb.specs.declared.Binary.{Binary}
use Rattle.cltlb.specs.declared.Binary.TheVariants.{And, Or, Until, Release, Since, Trigger}
use Rattle.cltlb.specs.declared.Operator.{Operator}
use Rattle.cltlb.specs.declared.Operator.TheVariants.{One, Two}
use Rattle.cltlb.specs.declared.View.{View}
use Rattle.cltlb.specs.declared.View.TheVariants as view
use Rattle.refusal.specs.Lowest.{lowest_from}
use Rattle.plan.specs.Layout.{start_rows, cycle_rows, rows}
use Rattle.plan.specs.Positions.{after}
use Rattle.verdict.specs.Rows.{atom_at}
use Rattle.table.specs.Bytes.{table_of}
use Rattle.marks.specs.declared.operators.Beside.{Beside}
use Rattle.marks.specs.declared.operators.Beside.TheVariants.{After, Before}
use Rattle.marks.specs.Equations.{beside_of, step_on, watched_truth}
use Rattle.marks.specs.Parts.{no_witness, running, witness_in_order}

-- What counts behind the rows that are followed: false for U, which so is the least solution of its equation; true for R, which
-- is the greatest. The others look at no mark of their own ahead.
abbrev pub end_two : Binary → Bool
end_two And = false
end_two Or = false
end_two Until = false
end_two Release = true
end_two Since = false
end_two Trigger = false

abbrev pub end_of : Operator → Bool
end_of (One o a) = false
end_of (Two o a b) = end_two o

-- With P start rows and C cycle rows, by the marks of the parts that an operator names.
module _ (P C : ℕ) (mark : ℕ → ℕ → Bool) where
  -- on a row, by following the row after k times
  unfoldable pub following : Operator → ℕ → ℕ → Bool
  following o zero row = end_of o
  following o (suc k) row = step_on mark o row (watched_truth mark o (following o k (after P C row)) (after P C row))

  -- An operator that looks back: its truth, row after row from row 0 on. One that looks ahead: by following the rows to the last
  -- one and once more round the cycle.
  unfoldable pub label_by : Beside → Operator → ℕ → Bool
  label_by After o row = following o (P + C - row + C) row
  label_by (Before first) o row = running mark o first row

  unfoldable pub operator_label : Operator → ℕ → Bool
  operator_label o row = label_by (beside_of o) o row

-- The mark of a part on a row of a plan: an atom by its truth at the row's first position, an operator by the marks.
unfoldable pub label_of : List ℕ → (ℕ → ℕ → Bool) → View → ℕ → Bool
label_of plan mark (view.Atom x) row = atom_at plan x row
label_of plan mark (view.Operator o) row = operator_label (start_rows plan) (cycle_rows plan) mark o row

-- 65535 where no row is found
unfoldable pub or_none : Option ℕ → ℕ
or_none none = no_witness
or_none (some row) = row

-- The lowest row from P to W - 1 that serves as the witness of part i; 65535 where none does.
unfoldable pub lowest_witness : List ℕ → (ℕ → ℕ → Bool) → View → ℕ → ℕ
lowest_witness plan mark p i =
    or_none (lowest_from (λ w. witness_in_order (start_rows plan) (cycle_rows plan) mark p i w) (start_rows plan) (cycle_rows plan))

module _ (parts : ℕ → View) (plan : List ℕ) where
  -- the mark of part i on a row, names being followed `depth` deep
  unfoldable pub label_to : ℕ → ℕ → ℕ → Bool
  label_to zero i row = false
  label_to (suc depth) i row = label_of plan (label_to depth) (parts i) row

  -- A named part is lower than its user, so that i + 1 deep is deep enough.
  unfoldable pub made_mark : ℕ → ℕ → Bool
  made_mark i row = label_to (suc i) i row

  unfoldable pub made_witness : ℕ → ℕ
  made_witness i = lowest_witness plan made_mark (parts i) i

  -- the mark table of n parts
  unfoldable pub made_table : ℕ → List ℕ
  made_table n = table_of n (rows plan) made_mark made_witness
