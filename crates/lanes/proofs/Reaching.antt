-- Columns that lie in their lanes, marks that lie in their table, and sweeps in pieces. Assumes nothing.
use Prim.Native.Nat.{ℕ, zero, suc, ◌+◌, ◌*◌, ◌-◌, ◌≤◌, ◌<◌}
use native.Mathlib.Nat.{add-zero, add-suc}
use native.Mathlib.Omega.{arith}
use mathlib.Core.Path.{◌≡◌, refl, sym, ap, ap₂, ◌∙◌}
use mathlib.Core.Bool.{Bool, true, false, not, ◌&&◌, and-true, and_assoc, not-not, false≢true}
use mathlib.Core.List.{List}
use lib.ListN.{length}
use Rattle.table.specs.inner.Tables.{all_below, Sized}
use Rattle.table.proofs.AllBelow.{all_each, sweep_next}
use Rattle.table.proofs.Places.{part_cells, area}
use Rattle.lanes.specs.declared.columns.Column.{Column}
use Rattle.lanes.specs.declared.columns.Source.TheVariants.{Lane}
use Rattle.lanes.specs.inner.Columns.{Reaches, InMarks}

module _ (lanes : List ℕ) (x : Column) where
  pub reaches_row : (count k : ℕ) → Reaches lanes x count → k < count → Reaches lanes x (k + 1)
  reaches_row count k h l from e = let g = h from e in omega arith

  pub in_reach : (k from : ℕ) → Reaches lanes x (k + 1) → x.source ≡ Lane from → 4 * (from + k) + 4 ≤ length lanes
  in_reach k from h e = let g = h from e in omega arith

-- the marks of part i from a row on
pub marks_there : (table : List ℕ) (n w : ℕ) → Sized table n w → (i row count m : ℕ) → i < n → row + count ≤ w → m ≡ 4 + (i * w + row) → InMarks table m count
marks_there table n w s i row count m l h e = record {
  there = let whole = s.whole in omega (arith, part_cells n w i l);
  few = let whole = s.whole in let parts = s.few_parts in omega (arith, area n w s.few_parts s.few_rows);
}

-- A test, by its negation.
pub negated : (b : Bool) {c : Bool} → not b ≡ c → b ≡ not c
negated b e = sym (not-not b) ∙ ap not e

module _ (f : ℕ → Bool) where
  all_on : (a n : ℕ) → (all_below f a && all_below (λ k. f (a + k)) n) ≡ all_below f (a + n)
  unfolding all_below
  all_on a zero = and-true (all_below f a) ∙ ap (all_below f) (sym (add-zero a))
  all_on a (suc n) =
      sym (and_assoc (all_below f a) (all_below (λ k. f (a + k)) n) (f (a + n)))
      ∙ ap (λ (b : Bool). b && f (a + n)) (all_on a n)
      ∙ ap (all_below f) (sym (add-suc a n))

  -- A sweep up to a row, and one from there on.
  pub swept_on : (a b : ℕ) {A B : Bool} → a ≤ b → A ≡ all_below f a → B ≡ all_below (λ k. f (a + k)) (b - a) → (A && B) ≡ all_below f b
  swept_on a b h e g = ap₂ ◌&&◌ e g ∙ all_on a (b - a) ∙ ap (all_below f) (omega arith)

  -- A row that says no, in a sweep that stops there, and one that says yes.
  pub sweep_stops : (k n : ℕ) {b : Bool} → k < n → b ≡ f k → not b ≡ true → false ≡ all_below f n
  sweep_stops k n {b} l e h = sym (go (all_below f n) refl)
    where
      go : (t : Bool) → all_below f n ≡ t → all_below f n ≡ false
      go true all = absurd (false≢true (sym (sym e ∙ negated b h) ∙ all_each f n all k l))
      go false all = all

  pub sweep_passes : (k : ℕ) {b : Bool} → true ≡ all_below f k → b ≡ f k → not b ≡ false → true ≡ all_below f (k + 1)
  sweep_passes k {b} all e h = sweep_next f k all (sym (negated b h) ∙ e)
