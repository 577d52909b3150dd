-- Where the marks of an operator that looks back meet the equation on the rows they are its truth, and closing can be read off them.
-- Assumes nothing.
use mathlib.Core.Path.{◌≡◌, refl, sym, ap, ap₂, ◌∙◌}
use mathlib.Core.Bool.{Bool, beq}
use Prim.Native.Nat.{ℕ, zero, suc, ◌+◌, ◌≤◌, ◌<◌}
use native.Mathlib.Omega.{arith}
use Rattle.cltlb.specs.declared.Operator.{Operator}
use Rattle.cltlb.specs.declared.Operator.TheVariants.{One, Two}
use Rattle.plan.specs.Positions.{last}
use Rattle.plan.proofs.Rows.{last_lt}
use Rattle.marks.specs.declared.operators.Beside.{Beside}
use Rattle.marks.specs.declared.operators.Beside.TheVariants.{Before}
use Rattle.marks.specs.Equations.{beside_of, watched, step_on, watched_truth, mark_beside, operator_mark}
use Rattle.marks.specs.Parts.{running, closes_by, closes}
use Rattle.marks.specs.inner.Tables.{TruthMarked}

-- What an operator sees of a row is the mark that it watches, where its truth there is its mark.
pub truth_watched : (mark : ℕ → ℕ → Bool) (o : Operator) (i row : ℕ) {own : Bool} → own ≡ mark i row → watched_truth mark o own row ≡ mark (watched o i) row
truth_watched mark (One o a) i row e = refl
truth_watched mark (Two o a b) i row e = e

module _ (P C : ℕ) (mark : ℕ → ℕ → Bool) (o : Operator) (i : ℕ) where
  -- Marks that meet the equation on the rows are the part's truth.
  pub met_truth : ((row : ℕ) → row < P + C → mark i row ≡ operator_mark P C mark o i row) → TruthMarked P C mark o i
  unfolding operator_mark running mark_beside
  met_truth met first e = go
    where
      met_by : (row : ℕ) → row < P + C → mark i row ≡ step_on mark o row (mark_beside P C (Before first) (mark (watched o i)) row)
      met_by row l = met row l ∙ ap (λ (s : Beside). step_on mark o row (mark_beside P C s (mark (watched o i)) row)) e

      go : (row : ℕ) → row < P + C → mark i row ≡ running mark o first row
      go zero l = met_by 0 l
      go (suc row) l = met_by (suc row) l ∙ ap (step_on mark o (suc row)) (sym (truth_watched mark o i row (sym (go row (omega arith)))))

  -- One that looks back, with marks that are its truth, closes exactly where its mark on row P is what the equation gives there with
  -- row W - 1 as the row before.
  pub closes_by_marks : 1 ≤ C → TruthMarked P C mark o i → (first : Bool) → beside_of o ≡ Before first
      → closes P C mark o ≡ beq (mark i P) (step_on mark o P (mark (watched o i) (last P C)))
  unfolding closes closes_by
  closes_by_marks some_cycle truth first e =
      let own = truth first e in
      ap (λ (s : Beside). closes_by P C mark s o) e
      ∙ ap₂ beq (sym (own P (omega arith)))
      (ap (step_on mark o P) (truth_watched mark o i (last P C) (sym (own (last P C) (last_lt P C some_cycle)))))
