-- A term on a stretch of direct rows, as a column: a stretch of a lane under its top, or a constant. Assumes nothing.
use Rattle.std.specs.Prelude.{ℕ, ◌+◌, ◌*◌, ◌-◌, ◌≤◌, ◌<◌, ◌≡◌, List, ℤ, pos, length}
use Rattle.std.proofs.Math.IntN.{sub_ℕ}
use Rattle.cltlb.specs.Run.{Seen, under}
use Rattle.cltlb.specs.declared.Term.{Term}
use Rattle.cltlb.specs.declared.Term.TheVariants.{Constant, Reading}
use Rattle.fields.specs.TwosComplement.{signed_of}
use Rattle.fields.specs.inner.Biased.{bias}
use Rattle.plan.specs.Layout.{entry}
use Rattle.plan.specs.inner.Sizes.{most_array}
use Rattle.table.specs.inner.Tables.{most_bytes}
use Rattle.verdict.specs.Lines.{Line}
use Rattle.verdict.specs.Rows.{term_top}
use Rattle.verdict.specs.inner.Landed.{shift_in}
use Rattle.lanes.specs.declared.columns.Column.{Column}
use Rattle.lanes.specs.declared.columns.Source.{Source}
use Rattle.lanes.specs.declared.columns.Source.TheVariants.{Lane, Fixed}
use Rattle.lanes.specs.declared.columns.Side.{Side}

-- the number on its k-th row, and the drift there
abbrev pub number_from : List ℕ → Source → ℕ → ℤ
number_from values (Lane from) k = entry values (from + k)
number_from values (Fixed pattern) k = signed_of 4 pattern

abbrev pub number_in : List ℕ → Column → ℕ → ℤ
number_in values x k = number_from values x.source k

abbrev pub drift_from : List ℕ → Source → ℕ → ℤ
drift_from drifts (Lane from) k = entry drifts (from + k)
drift_from drifts (Fixed pattern) k = pos 0

abbrev pub drift_in : List ℕ → Column → ℕ → ℤ
drift_in drifts x k = drift_from drifts x.source k

abbrev pub line_in : List ℕ → List ℕ → Column → ℕ → Line
line_in values drifts x k = record { at = number_in values x k; step = drift_in drifts x k }

-- its top, and what is seen on its k-th row under that
abbrev pub top_in : Column → ℤ
top_in x = pos x.top

abbrev pub seen_in : List ℕ → Column → ℕ → Seen
seen_in values x k = under (top_in x) (number_in values x k)

-- s is how a term of a plan is read
pub record IsSide (plan : List ℕ) (x : Term) (s : Side) : Type 0 where
  pub is_code : sub_ℕ s.code 4 ≡ shift_in x
  pub is_top : pos s.top ≡ term_top plan x
  pub few : s.code ≤ 8
  pub small : s.top < bias

-- the first `count` rows of a column lie in the lanes
abbrev pub Reaches : List ℕ → Column → ℕ → Type 0
Reaches lanes x count = (from : ℕ) → x.source ≡ Lane from → 4 * (from + count) ≤ length lanes

-- those of two columns, in lanes that are no longer than the largest array
pub record InLanes (lanes : List ℕ) (x y : Column) (count : ℕ) : Type 0 where
  pub left : Reaches lanes x count
  pub right : Reaches lanes y count
  pub few : length lanes ≤ most_array

-- `count` marks lie in the table
pub record InMarks (table : List ℕ) (m count : ℕ) : Type 0 where
  pub there : m + count ≤ length table
  pub few : length table ≤ most_bytes

-- no channel is 8 or more
unfoldable pub FewChannels : Term → Type 0
FewChannels (Constant z) = Unit {0}
FewChannels (Reading channel shift) = channel < 8

-- a column's source is a constant
pub record IsFixed (z : ℤ) (source : Source) : Type 0 where
  pub pattern : ℕ
  pub is_fixed : source ≡ Fixed pattern
  pub value_is : signed_of 4 pattern ≡ z

-- x is the column of a term whose shift has this code, on the rows from `row` on, in lanes of w rows
unfoldable pub Stands : ℕ → ℕ → ℕ → Term → Column → Type 0
Stands w row code (Constant z) x = IsFixed z x.source
Stands w row code (Reading channel shift) x = x.source ≡ Lane (channel * w + (row + code - 4))

-- the number of a term on a row, in lanes of w rows, its shift having this code, and its drift there
abbrev pub lane_number : List ℕ → ℕ → Term → ℕ → ℕ → ℤ
lane_number values w (Constant z) code row = z
lane_number values w (Reading channel shift) code row = entry values (channel * w + (row + code - 4))

abbrev pub lane_drift : List ℕ → ℕ → Term → ℕ → ℕ → ℤ
lane_drift drifts w (Constant z) code row = pos 0
lane_drift drifts w (Reading channel shift) code row = entry drifts (channel * w + (row + code - 4))

abbrev pub lane_line : List ℕ → List ℕ → ℕ → Term → ℕ → ℕ → Line
lane_line values drifts w x code row = record { at = lane_number values w x code row; step = lane_drift drifts w x code row }

-- what is seen of a term on a row
abbrev pub lane_seen : List ℕ → ℕ → Term → Side → ℕ → Seen
lane_seen values w x s row = under (pos s.top) (lane_number values w x s.code row)
