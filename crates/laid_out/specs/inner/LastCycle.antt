-- Readings of a cycle that take more than 32 bits, by their row and pass. Assumes nothing.
use Rattle.std.specs.Prelude.{ℕ, ◌+◌, Bool, not, List}
use Rattle.fields.specs.TwosComplement.{signed_fits}
use Rattle.plan.specs.Layout.{channels, start_rows, cycle_rows, any_below}
use Rattle.plan.specs.Run.{reading_on}

module _ (plan : List ℕ) where
  -- the reading of a channel,
  unfoldable pub number_too_large : ℕ → ℕ → ℕ → Bool
  number_too_large row pass channel = not (signed_fits 4 (reading_on plan channel row pass))

  -- of some channel,
  unfoldable pub row_too_large : ℕ → ℕ → Bool
  row_too_large row pass = any_below (number_too_large row pass) (channels plan)

  -- and of some channel on some row of the cycle
  unfoldable pub cycle_too_large : ℕ → Bool
  cycle_too_large pass = any_below (λ j. row_too_large (start_rows plan + j) pass) (cycle_rows plan)
