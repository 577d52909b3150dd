-- A comparison held against its marks at a position: there alone, or on every pass from there on. Assumes nothing.
use Rattle.std.specs.Prelude.{ℕ, Bool, cond, List, ltb}
use Rattle.std.specs.Bool.{beq}
use Rattle.plan.specs.Positions.{row_of}
use Rattle.plan.specs.inner.Sizes.{all_rows}
use Rattle.table.specs.Layout.{marked}
use Rattle.verdict.specs.Rows.{test_at, judge_from}
use Rattle.verdict.specs.declared.Comparison.{Comparison}
use Rattle.lanes.specs.declared.rows.ComparisonPart.{ComparisonPart}
use Rattle.lanes.specs.inner.Agreement.{verdict_agrees}

-- the mark says what the comparison is at position t; from `lines` on, on every pass from there on
abbrev pub says_at : List ℕ → Comparison → ℕ → Bool → ℕ → Bool
says_at plan x lines mark t = cond (ltb t lines) (beq mark (test_at plan x t)) (verdict_agrees (judge_from plan x t) mark)

-- the mark of a part on the row of the position
abbrev pub position_says : List ℕ → List ℕ → ComparisonPart → ℕ → ℕ → Bool
position_says plan table part lines t = says_at plan part.comparison lines (marked (all_rows part.sizes) table part.i (row_of part.sizes.start part.sizes.cycle t)) t
