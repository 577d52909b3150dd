-- What the sweeps over a stretch of rows find: the marks say how its numbers, or its lines, compare. Assumes nothing.
use Rattle.std.specs.Prelude.{ℕ, ◌+◌, ◌-◌, ◌≡◌, ◌*◌, Bool, List}
use Rattle.plan.specs.inner.Sizes.{all_rows, all_stored}
use Rattle.table.specs.inner.Tables.{all_below, mark_in}
use Rattle.verdict.specs.declared.Relation.{Relation}
use Rattle.lanes.specs.declared.stretch.Stretch.{Stretch}
use Rattle.lanes.specs.declared.stretch.Lines.{Lines}
use Rattle.lanes.specs.declared.rows.ComparisonPart.{ComparisonPart}
use Rattle.lanes.specs.declared.rows.Sides.{Sides}
use Rattle.lanes.specs.inner.Agreement.{values_agree, lines_agree, seen_agree, under_agree}
use Rattle.lanes.specs.inner.Columns.{Stands}

-- the mark of a row
abbrev pub mark_of : Stretch → ℕ → Bool
mark_of s k = mark_in s.table.now (s.m + k)

-- the marks say how the numbers compare
abbrev pub all_values_agree : Relation → Stretch → Bool
all_values_agree relation s = all_below (λ k. values_agree relation s.values.now s.x s.y (mark_of s k) k) s.count

-- and so on every pass for the lines
abbrev pub all_lines_agree : Relation → Lines → Bool
all_lines_agree relation l = all_below (λ k. lines_agree relation l.stretch.values.now l.drifts.now l.stretch.x l.stretch.y (mark_of l.stretch k) k) l.stretch.count

-- and the same of what is seen under the tops
abbrev pub all_seen_agree : Relation → Stretch → Bool
all_seen_agree relation s = all_below (λ k. seen_agree relation s.values.now s.x s.y (mark_of s k) k) s.count

abbrev pub all_under_agree : Relation → Lines → Bool
all_under_agree relation l = all_below (λ k. under_agree relation l.stretch.values.now l.drifts.now l.stretch.x l.stretch.y (mark_of l.stretch k) k) l.stretch.count

-- s is the stretch of a part's direct rows from one up to another, in lanes of numbers
pub record OnRows (values table : List ℕ) (part : ComparisonPart) (sides : Sides) (from to : ℕ) (s : Stretch) : Type 0 where
  pub values_are : s.values.now ≡ values
  pub table_is : s.table.now ≡ table
  pub left_stands : Stands (all_stored part.sizes) (part.sizes.lead + from) sides.left.code part.comparison.left s.x
  pub left_top : s.x.top ≡ sides.left.top
  pub right_stands : Stands (all_stored part.sizes) (part.sizes.lead + from) sides.right.code part.comparison.right s.y
  pub right_top : s.y.top ≡ sides.right.top
  pub m_is : s.m ≡ 4 + (part.i * all_rows part.sizes + from)
  pub count_is : s.count ≡ to - from
