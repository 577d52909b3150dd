-- Rows on which nothing drifts. Assumes nothing.
use Rattle.std.specs.Prelude.{ℕ, ◌+◌, ◌*◌, ◌≤◌, ◌<◌, ◌≡◌, Bool, not, List, eqb, pos}
use Rattle.fields.specs.LittleEndian.{number_at}
use Rattle.plan.specs.Layout.{channels, lead_rows, any_below, stored_drift}

-- the number at an index of an array is not 0
unfoldable pub non_zero : List ℕ → ℕ → ℕ → Bool
non_zero array from k = not (eqb (number_at 4 array (4 * (from + k))) 0)

-- `count` numbers of an array, from an index on, are 0
unfoldable pub all_zero : List ℕ → ℕ → ℕ → Bool
all_zero array from count = not (any_below (non_zero array from) count)

-- no channel drifts on the stored rows from one up to another
unfoldable pub StoredStill : List ℕ → ℕ → ℕ → Type 0
StoredStill plan from to = (k channel : ℕ) → from ≤ k → k < to → channel < channels plan → stored_drift plan k channel ≡ pos 0

-- and on the rows, which are stored behind the lead-in
unfoldable pub Still : List ℕ → ℕ → ℕ → Type 0
Still plan from to = StoredStill plan (lead_rows plan + from) (lead_rows plan + to)
