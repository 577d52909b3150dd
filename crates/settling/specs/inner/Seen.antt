-- What an operator sees beside a row, by the marks of the parts that it names. Assumes nothing.
use Rattle.std.specs.Prelude.{ℕ, zero, suc, ◌+◌, ◌-◌, ◌≡◌, Bool}
use Rattle.cltlb.specs.declared.Operator.{Operator}
use Rattle.marks.specs.Equations.{step_on, watched_truth}
use Rattle.marks.specs.Parts.{running}
use Rattle.labelling.specs.Labels.{following}

-- one that looks back: before row 0 what counts there, and of the row before by its truth
unfoldable pub seen_back : (ℕ → ℕ → Bool) → Operator → Bool → ℕ → Bool
seen_back mark o first zero = first
seen_back mark o first (suc row) = watched_truth mark o (running mark o first row) row

-- one that looks ahead, with P start rows and C cycle rows: what has it followed to the last row and once more round the cycle, on
-- the row before `row`
abbrev pub SeenAhead : ℕ → ℕ → (ℕ → ℕ → Bool) → Operator → ℕ → Bool → Type 0
SeenAhead P C mark o row beside = (before : ℕ) → suc before ≡ row → step_on mark o before beside ≡ following P C mark o (P + C - before + C) before
