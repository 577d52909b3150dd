-- Lines with the same steps on a stretch of rows, and their spacing around the week. Assumes nothing.
use Rattle.std.specs.Prelude.{ℕ, ◌+◌, ◌*◌, ◌-◌, ◌/◌, ◌%◌, min, ◌≤◌, ◌<◌, ◌≡◌, Bool, ◌&&◌, List}
use Rattle.std.proofs.Math.IntN.{sub_ℕ}
use Rattle.cltlb.specs.Week.{week, minute_of}
use Rattle.fields.specs.inner.Biased.{unbiased}
use Rattle.table.specs.inner.Tables.{mark_in}
use Rattle.verdict.specs.Comparisons.{test_of}
use Rattle.verdict.specs.Divisors.{gcd}
use Rattle.verdict.specs.Weeks.{judge_within}
use Rattle.verdict.specs.declared.Relation.TheVariants.{Same}
use Rattle.lanes.specs.declared.columns.Column.{Column}
use Rattle.lanes.specs.declared.weeks.Spacing.{Spacing}
use Rattle.lanes.specs.inner.Columns.{number_in, drift_in}
use Rattle.lanes.specs.inner.Agreement.{verdict_agrees}

-- all shares of a spacing: 2 ^ 32
abbrev pub whole : ℕ
whole = 4294967296

-- s is the spacing of lines with these steps, which are kept without a sign, and a window of so many minutes
pub record Spaces (minutes left right : ℕ) (s : Spacing) : Type 0 where
  pub minutes_is : s.minutes ≡ minutes
  pub left_is : s.left ≡ left
  pub right_is : s.right ≡ right
  pub apart_is : s.apart ≡ gcd week (minute_of (sub_ℕ left right))
  pub some : 1 ≤ s.apart
  pub few : s.apart ≤ week
  -- its inverse, the least that may be left over, and what is
  pub inverse_low : s.inverse * s.apart < whole
  pub inverse_high : whole ≤ s.inverse * s.apart + s.apart
  pub rest_low : s.rest * s.apart ≤ (whole - s.inverse * s.apart) * whole
  pub rest_high : (whole - s.inverse * s.apart) * whole ≤ s.rest * s.apart + 65536 * s.apart
  -- as many minutes as lie below the last multiple of it in the week, and as many as lie below it, in shares
  pub always_is : s.always ≡ (min minutes week - (week - s.apart)) * s.inverse
  pub once_is : s.once ≡ min minutes s.apart * s.inverse

-- the share of a number
abbrev pub share_of : Spacing → ℕ → ℕ
share_of s a = (a * s.inverse + a * s.rest / whole) % whole

-- so many minutes are a share of so large a spacing, or little less
pub record Shares (apart minutes share : ℕ) : Type 0 where
  pub low : minutes * whole ≤ share * apart
  pub high : share * apart ≤ minutes * whole + 131074 * apart

-- on a row both columns have these drifts
abbrev pub same_drifts : List ℕ → Column → Column → ℕ → ℕ → ℕ → Bool
same_drifts drifts x y left right k = test_of Same (drift_in drifts x k) (unbiased left) && test_of Same (drift_in drifts y k) (unbiased right)

-- on the rows from one up to another they do
unfoldable pub HaveDrifts : List ℕ → Column → Column → ℕ → ℕ → ℕ → ℕ → Type 0
HaveDrifts drifts x y left right from to = (k : ℕ) → from ≤ k → k < to → (unbiased left ≡ drift_in drifts x k) × (unbiased right ≡ drift_in drifts y k)

-- and there are such rows
pub record SameDrifts (drifts : List ℕ) (x y : Column) (left right from to : ℕ) : Type 0 where
  pub on : from < to
  pub same : HaveDrifts drifts x y left right from to

-- the mark of a row says on every pass whether a line with the one step is less than n minutes after a line with the other
abbrev pub spaced_says : List ℕ → ℕ → ℕ → ℕ → Column → Column → List ℕ → ℕ → ℕ → Bool
spaced_says values n left right x y table m k =
    verdict_agrees (judge_within n (record { at = number_in values x k; step = unbiased left }) (record { at = number_in values y k; step = unbiased right })) (mark_in table (m + k))
