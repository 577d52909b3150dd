-- What the code goes by: equations on all rows at once, and marks that are the truth. Assumes nothing.
use Rattle.std.specs.Prelude.{ℕ, suc, ◌+◌, ◌-◌, ◌<◌, ◌≡◌, Bool, false, ◌&&◌, List}
use Rattle.std.specs.Bool.{beq}
use Rattle.cltlb.specs.declared.Operator.{Operator}
use Rattle.plan.specs.Positions.{after}
use Rattle.marks.specs.declared.operators.Beside.TheVariants.{Before}
use Rattle.marks.specs.Equations.{beside_of, operator_mark}
use Rattle.marks.specs.Parts.{running, closes}
use Rattle.table.specs.inner.Tables.{all_below, copy_of, step_of, mark_in}

-- Part i, which is an operator, meets its equation on a row, with P start rows and C cycle rows.
unfoldable pub meets_on : ℕ → ℕ → (ℕ → ℕ → Bool) → Operator → ℕ → ℕ → Bool
meets_on P C mark o i row = beq (mark i row) (operator_mark P C mark o i row)

-- It meets its equation on every row, and closes.
unfoldable pub clear_of : ℕ → ℕ → (ℕ → ℕ → Bool) → Operator → ℕ → Bool
clear_of P C mark o i = all_below (meets_on P C mark o i) (P + C) && closes P C mark o

-- The marks of part i on the rows are its truth, if it looks back.
abbrev pub TruthMarked : ℕ → ℕ → (ℕ → ℕ → Bool) → Operator → ℕ → Type 0
TruthMarked P C mark o i = (first : Bool) → beside_of o ≡ Before first → (row : ℕ) → row < P + C → mark i row ≡ running mark o first row

-- A test of a row and a row beside it is true of every row and the row after it.
unfoldable pub ahead_of : ℕ → ℕ → (ℕ → ℕ → Bool) → Bool
ahead_of P C test = all_below (λ row. test row (after P C row)) (P + C)

-- It is true of every row above 0 and the row before it, and of row P with row W - 1 as the row before; so is `first`, a test of
-- row 0.
unfoldable pub behind_of : ℕ → ℕ → Bool → (ℕ → ℕ → Bool) → Bool
behind_of P C first test = (first && all_below (λ k. test (suc k) k) (P + C - 1)) && test P (P + C - 1)

-- The mark on a row is that on the row beside it; marks lie from m and from a on.
abbrev pub copy_test : List ℕ → ℕ → ℕ → ℕ → ℕ → Bool
copy_test table m a row beside = copy_of false (mark_in table (m + row)) (mark_in table (a + beside))

-- The mark on a row is b there, or a there and the mark beside; or it is so of the opposites.
abbrev pub step_test : Bool → List ℕ → ℕ → ℕ → ℕ → ℕ → ℕ → Bool
step_test opposite table m a b row beside =
    step_of opposite (mark_in table (m + row)) (mark_in table (a + row)) (mark_in table (b + row)) (mark_in table (m + beside))
