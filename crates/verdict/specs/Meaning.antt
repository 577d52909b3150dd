-- What a verdict says of an atom on a row: of its truth at every position that lies on the row, that is, on every
-- pass. Assumes nothing.
use Rattle.std.specs.Prelude.{ℕ, ◌≡◌, Bool, true, false, ◌↔◌}
use Rattle.plan.specs.Positions.{row_of}
use Rattle.verdict.specs.declared.Verdict.{Verdict}
use Rattle.verdict.specs.declared.Verdict.TheVariants.{AlwaysTrue, AlwaysFalse, Changes}

-- The verdict v on a row, with P start rows and C cycle rows, of an atom whose truth at position t is F t.
pub record VerdictMeans (P C row : ℕ) (F : ℕ → Type 0) (v : Verdict) : Type 0 where
  -- always true: it holds on every pass
  pub always_true : (v ≡ AlwaysTrue) ↔ ((t : ℕ) → row_of P C t ≡ row → F t)
  -- always false: it holds on none
  pub always_false : (v ≡ AlwaysFalse) ↔ ((t : ℕ) → row_of P C t ≡ row → ¬ F t)
  -- changes: two passes differ
  pub changes : (v ≡ Changes) ↔ (((t : ℕ) × (row_of P C t ≡ row) × F t) × ((t : ℕ) × (row_of P C t ≡ row) × (¬ F t)))

-- two passes differ
abbrev pub is_changes : Verdict → Bool
is_changes AlwaysTrue = false
is_changes AlwaysFalse = false
is_changes Changes = true
