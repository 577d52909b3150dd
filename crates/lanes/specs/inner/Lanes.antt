-- Lanes: an array of a plan laid out one channel after another. Assumes nothing.
use Rattle.std.specs.Prelude.{ℕ, ◌+◌, ◌*◌, ◌≤◌, ◌<◌, ◌≡◌, Bool, true, false, List, length}
use Rattle.fields.specs.LittleEndian.{number_at}
use Rattle.plan.specs.Layout.{array_length, cell, readings, drifts}
use Rattle.plan.specs.inner.Drifts.{Still}
use Rattle.plan.specs.inner.Sizes.{all_rows, all_stored, most_stored, most_array}
use Rattle.plan.specs.declared.sizes.Sizes.{Sizes}

-- an array of w rows of v numbers, and lanes with room for them
pub record Room (array : List ℕ) (v w : ℕ) (lanes : List ℕ) : Type 0 where
  pub few_channels : v ≤ 8
  pub few_rows : w ≤ most_stored
  pub whole : length array ≡ array_length v w
  pub there : array_length v w ≤ length lanes
  pub few : length lanes ≤ most_array

-- the numbers of the lanes are those of the array, before an index
unfoldable pub LaidTo : List ℕ → ℕ → ℕ → List ℕ → ℕ → Type 0
LaidTo array v w lanes end = (channel row : ℕ) → row < w → channel * w + row < end → number_at 4 lanes (4 * (channel * w + row)) ≡ number_at 4 array (4 * cell v row channel)

-- all of them
pub record Laid (array : List ℕ) (v w : ℕ) (lanes : List ℕ) : Type 0 where
  pub there : array_length v w ≤ length lanes
  pub few : length lanes ≤ most_array
  pub laid : LaidTo array v w lanes (v * w)

-- the lanes of a plan, each with the lead-in first: its readings, and its drifts, unless nothing drifts in the cycle
pub record Lanes (plan : List ℕ) (z : Sizes) (values steps : List ℕ) (still : Bool) : Type 0 where
  pub readings_laid : Laid (readings plan) z.channels (all_stored z) values
  pub drifts_laid : still ≡ false → Laid (drifts plan) z.channels (all_stored z) steps
  pub no_drift : still ≡ true → Still plan z.start (all_rows z)
