-- The positions at which a comparison is looked at, divided into those that are direct and the others. Assumes nothing.
use Rattle.std.specs.Prelude.{ℕ, ◌+◌, ◌≤◌, ◌<◌, ◌≡◌, Bool, false}
use Rattle.plan.specs.inner.Sizes.{all_rows}
use Rattle.plan.specs.declared.sizes.Sizes.{Sizes}
use Rattle.lanes.specs.declared.ranges.Ranges.{Ranges}

-- a position from which shifts that reach `back` positions back at most, and whose codes are at most `high`, land in the lead-in or on
-- the first pass
abbrev pub DirectAt : Sizes → ℕ → ℕ → ℕ → Type 0
DirectAt z back high t = (back ≤ z.lead + t) × (t + high < all_rows z + 4)

pub record Divides (z : Sizes) (back high : ℕ) (still : Bool) (r : Ranges) : Type 0 where
  pub in_order : (r.before ≤ r.numbers) × (r.numbers ≤ r.end) × (r.end ≤ all_rows z)
  -- a term is read before the run
  pub reach_before : (t : ℕ) → t < r.before → z.lead + t < back
  -- direct, and unless nothing drifts, before the lines
  pub numbers_direct : (t : ℕ) → r.before ≤ t → t < r.numbers → DirectAt z back high t × (still ≡ false → t < z.start + back)
  -- direct, and on the lines
  pub lines_direct : (t : ℕ) → r.numbers ≤ t → t < r.end → DirectAt z back high t × (z.start + back ≤ t) × (still ≡ false)
