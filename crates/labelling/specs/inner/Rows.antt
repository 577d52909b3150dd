-- What stands on the rows of a part once it is made, and the lowest witness by kinds. Assumes nothing.
use Rattle.std.specs.Prelude.{Option, Some, None, ℕ, ◌+◌, ◌*◌, ◌≡◌, Bool, true, false, cond, not, List}
use Rattle.std.proofs.Math.Option as maybe
use Rattle.cltlb.specs.declared.Binary.{Binary}
use Rattle.cltlb.specs.declared.Binary.TheVariants.{And, Or, Until, Release, Since, Trigger}
use Rattle.refusal.specs.Lowest.{lowest_from}
use Rattle.refusal.specs.Outcome.{Outcome, unrefused}
use Rattle.table.specs.Bytes.{byte_of}
use Rattle.table.specs.inner.Stored.{Stored}
use Rattle.verdict.specs.declared.Verdict.{Verdict}
use Rattle.verdict.specs.declared.Verdict.TheVariants.{AlwaysTrue, AlwaysFalse, Changes}

abbrev pub is_true : Verdict → Bool
is_true AlwaysTrue = true
is_true AlwaysFalse = false
is_true Changes = false

-- Part i of a table on w rows, by what refuses it.
pub record RowsLabelled (old new : List ℕ) (w i : ℕ) (outcome : Outcome) (mark : ℕ → Bool) : Type 0 where
  -- nothing but its rows is written, of one that does not close with bytes that are left open;
  pub rows_alone : (bytes : ℕ → ℕ) × Stored old new (4 + i * w) 0 w bytes
  -- of one that closes they are its marks
  pub made : outcome ≡ unrefused → Stored old new (4 + i * w) 0 w (λ row. byte_of (mark row))

-- a row that a search found, as the code has it
abbrev pub found : maybe.Option ℕ → Option ℕ
found maybe.none = None
found (maybe.some row) = Some row

-- The lowest witness of an operator over two parts, by its mark on row W - 1 and the marks of the second part.
abbrev pub lowest_two : ℕ → ℕ → Binary → Bool → (ℕ → Bool) → maybe.Option ℕ
lowest_two P C Until last b = cond last (lowest_from b P C) maybe.none
lowest_two P C Release last b = cond last maybe.none (lowest_from (λ row. not (b row)) P C)
lowest_two P C And last b = maybe.none
lowest_two P C Or last b = maybe.none
lowest_two P C Since last b = maybe.none
lowest_two P C Trigger last b = maybe.none
