-- A comparison on rows on which it is direct, and on all rows. Assumes nothing.
use Rattle.std.specs.Prelude.{ℕ, ◌+◌, ◌≤◌, ◌<◌, Bool, List, pos, length}
use Rattle.std.specs.Bool.{beq}
use Rattle.fields.specs.inner.Biased.{bias}
use Rattle.plan.specs.Layout.{array_length}
use Rattle.plan.specs.inner.Sizes.{all_rows, all_stored, most_array}
use Rattle.plan.specs.declared.sizes.Sizes.{Sizes}
use Rattle.verdict.specs.Comparisons.{tested}
use Rattle.verdict.specs.Tops.{judge_under}
use Rattle.verdict.specs.Rows.{judge_row}
use Rattle.verdict.specs.inner.Reach.{TermsFit}
use Rattle.verdict.specs.declared.Comparison.{Comparison}
use Rattle.table.specs.Layout.{marked}
use Rattle.table.specs.inner.Tables.{Sized}
use Rattle.lanes.specs.inner.Agreement.{verdict_agrees}
use Rattle.lanes.specs.inner.Columns.{lane_seen, lane_line}
use Rattle.lanes.specs.declared.rows.ComparisonPart.{ComparisonPart}
use Rattle.lanes.specs.declared.rows.Sides.{Sides}

-- the mark of part i on a row says on every pass what the comparison is there
abbrev pub agrees_on : List ℕ → List ℕ → ℕ → ℕ → Comparison → ℕ → Bool
agrees_on plan table w i x row = verdict_agrees (judge_row plan x row) (marked w table i row)

-- a comparison that is a part, its terms read so, on a row, which stands behind the lead-in in its lane
module _ (values table : List ℕ) (part : ComparisonPart) (sides : Sides) where
  abbrev z : Sizes
  z = part.sizes

  abbrev x : Comparison
  x = part.comparison

  abbrev mark : ℕ → Bool
  mark = marked (all_rows z) table part.i

  -- the mark says how what is seen of the two compares
  abbrev pub numbers_say : ℕ → Bool
  numbers_say row =
      beq (mark row) (tested x.relation (lane_seen values (all_stored z) x.left sides.left (z.lead + row)) (lane_seen values (all_stored z) x.right sides.right (z.lead + row)))

  -- the mark says on every pass how the two lines compare
  abbrev pub lines_say : List ℕ → ℕ → Bool
  lines_say drifts row =
      verdict_agrees (judge_under x.relation (pos sides.left.top) (lane_line values drifts (all_stored z) x.left sides.left.code (z.lead + row)) (pos sides.right.top) (lane_line values drifts (all_stored z) x.right sides.right.code (z.lead + row))) (mark row)

-- the comparison is a part of the table, and its terms can be read so
pub record OfPart (table : List ℕ) (part : ComparisonPart) (sides : Sides) : Type 0 where
  pub few_channels : part.sizes.channels ≤ 8
  pub a_cycle : 1 ≤ part.sizes.cycle
  pub few_lead : part.sizes.lead ≤ 4
  pub sized : Sized table part.n (all_rows part.sizes)
  pub present : part.i < part.n
  pub terms_fit : TermsFit part.sizes part.comparison
  pub few_codes : (sides.left.code ≤ 8) × (sides.right.code ≤ 8)
  pub small : (sides.left.top < bias) × (sides.right.top < bias)

-- its rows from one up to another, from all of which the shifts land in the lead-in or on the first pass
pub record DirectRows (table : List ℕ) (part : ComparisonPart) (sides : Sides) (from to : ℕ) : Type 0 where
  pub of_part : OfPart table part sides
  pub few_rows : to ≤ all_rows part.sizes
  pub left_in : from < to → (4 ≤ part.sizes.lead + from + sides.left.code) × (to + sides.left.code ≤ all_rows part.sizes + 4)
  pub right_in : from < to → (4 ≤ part.sizes.lead + from + sides.right.code) × (to + sides.right.code ≤ all_rows part.sizes + 4)

-- lanes that are long enough
abbrev pub LongLanes : Sizes → List ℕ → Type 0
LongLanes z lanes = (array_length z.channels (all_stored z) ≤ length lanes) × (length lanes ≤ most_array)
