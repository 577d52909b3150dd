-- The refusals of a mark table, 7 to 11: their numbers, and that two bytes hold the part and the row that one names. Assumes
-- nothing.
use Rattle.refusal.specs.Outcome.{unrefused}
use Prim.Native.Nat.{ℕ, ◌+◌, ◌*◌, ◌≤◌, ◌<◌}
use native.Mathlib.Omega.{arith}
use mathlib.Core.Path.{◌≡◌}
use mathlib.Core.List.{List}
use mathlib.Core.Bool.{Bool, and-eq-true_iff}
use lib.Dec.{leb, eqb}
use lib.ListN.{length}
use borrow.Author.Tests.{eqb-true}
use Rattle.fields.specs.LittleEndian.{number_at}
use Rattle.cltlb.specs.declared.View.{View}
use Rattle.cltlb.specs.declared.View.TheVariants as view
use Rattle.refusal.specs.declared.Refusal.TheVariants.{MarkSizes, MarkByte, Equation, Closing, Witness}
use Rattle.refusal.specs.First.{◌or_else◌, unless, at_lowest, in_turn}
use Rattle.refusal.proofs.First.{or_else_clear, unless_clear}
use Rattle.refusal.proofs.RefusesOnly.{Small, Within, RefusesOnly, or_else_only, unless_only, search_only, at_lowest_only, in_turn_only}
use Rattle.plan.specs.Layout.{start_rows, cycle_rows, rows}
use Rattle.verdict.specs.Meaning.{is_changes}
use Rattle.verdict.specs.Rows.{verdict_of}
use Rattle.table.specs.Layout.{sizes_fit, above_one, bytes_outcome, table_outcome}
use Rattle.marks.specs.Parts.{closes, witness_in_order, steady_outcome, breaks, equation_outcome, closing_outcome, witness_outcome, part_outcome}
use Rattle.table.specs.inner.Tables.{Sized}

-- A table that passes refusal 7 has n parts on w rows.
pub cleared_sized : (n w : ℕ) (table : List ℕ) → n ≤ 64 → w ≤ 256 → table_outcome n w table ≡ unrefused → Sized table n w
unfolding table_outcome sizes_fit
cleared_sized n w table hn hw e =
    let sizes = (unless_clear (sizes_fit n w table) MarkSizes).0 ((or_else_clear (unless (sizes_fit n w table) MarkSizes) (in_turn (bytes_outcome w table) n)).0 e).0 in
    let rest = ((and-eq-true_iff (leb 4 (length table)) _).0 sizes).1 in
    let last = ((and-eq-true_iff (eqb (number_at 2 table 2) w) _).0 ((and-eq-true_iff (eqb (number_at 2 table 0) n) _).0 rest).1).1 in
    record { few_parts = hn; few_rows = hw; whole = eqb-true (length table) (4 + n * w + 2 * n) last }

-- with at most 64 parts and 256 rows
module _ (plan : List ℕ) (few : rows plan ≤ 256) (n : ℕ) (parts : n ≤ 64) where
  pub table_within : (table : List ℕ) → RefusesOnly (Within 7 8) (table_outcome n (rows plan) table)
  unfolding table_outcome bytes_outcome
  table_within table =
      or_else_only (Within 7 8) (unless (sizes_fit n (rows plan) table) MarkSizes) (in_turn (λ part. at_lowest (above_one (rows plan) table part) (rows plan) (MarkByte part)) n)
      (unless_only (Within 7 8) (sizes_fit n (rows plan) table) MarkSizes (omega arith))
      (λ _. in_turn_only (Within 7 8) (λ part. at_lowest (above_one (rows plan) table part) (rows plan) (MarkByte part)) n
      (λ i h. at_lowest_only (Within 7 8) (above_one (rows plan) table i) (rows plan) (MarkByte i) (λ j k. omega arith)))

  module _ (mark : ℕ → ℕ → Bool) (i : ℕ) (low : i < n) where
    pub closing_small : (p : View) → RefusesOnly Small (closing_outcome plan mark p i)
    unfolding closing_outcome steady_outcome rows
    closing_small (view.Atom x) = search_only Small (λ row. is_changes (verdict_of plan x row)) (start_rows plan) (cycle_rows plan) (Closing i) (λ j a b. omega arith)
    closing_small (view.Operator o) = unless_only Small (closes (start_rows plan) (cycle_rows plan) mark o) (Closing i (start_rows plan)) (omega arith)

    pub part_small : (p : View) (w : ℕ) → RefusesOnly Small (part_outcome plan mark p i w)
    unfolding part_outcome equation_outcome witness_outcome
    part_small p w =
        or_else_only Small (closing_outcome plan mark p i) (equation_outcome plan mark p i or_else witness_outcome plan mark p i w) (closing_small p)
        (λ _. or_else_only Small (equation_outcome plan mark p i) (witness_outcome plan mark p i w)
        (at_lowest_only Small (breaks plan mark p i) (rows plan) (Equation i) (λ j h. omega arith))
        (λ _. unless_only Small (witness_in_order (start_rows plan) (cycle_rows plan) mark p i w) (Witness i) (omega arith)))
