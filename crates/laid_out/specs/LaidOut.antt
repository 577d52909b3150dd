-- A plan with passes of its cycle laid out as start rows, so that the cycle begins later: the loop unrolled. Assumes nothing.
use Rattle.std.specs.Prelude.{ℕ, ◌+◌, ◌*◌, ◌-◌, Bool, cond, not, ◌&&◌, List, leb, ltb, ℤ, pos}
use Rattle.fields.specs.TwosComplement.{signed_fits}
use Rattle.plan.specs.Layout.{channels, start_rows, cycle_rows, lead_rows, any_below, top_of, stored_reading, drift_of}
use Rattle.plan.specs.Positions.{row_of}
use Rattle.plan.specs.Run.{reading_at}
use Rattle.plan.specs.Bytes.{plan_of}

module _ (plan : List ℕ) where
  -- With n passes laid out: the start rows, and all rows but the lead-in.
  unfoldable pub start_after : ℕ → ℕ
  start_after n = start_rows plan + n * cycle_rows plan

  unfoldable pub rows_after : ℕ → ℕ
  rows_after n = start_after n + cycle_rows plan

  -- The readings of the k-th row that is stored: those of the lead-in as they are, and of row t those at position t.
  unfoldable pub laid_reading : ℕ → ℕ → ℤ
  laid_reading k channel = cond (ltb k (lead_rows plan)) (stored_reading plan k channel) (reading_at plan channel (k - lead_rows plan))

  -- Its drifts: none before the cycle; in it, those of the cycle row that it is a later pass of.
  unfoldable pub laid_drift : ℕ → ℕ → ℕ → ℤ
  laid_drift n k channel =
      cond (ltb k (lead_rows plan + start_after n)) (pos 0) (drift_of plan (row_of (start_rows plan) (cycle_rows plan) (k - lead_rows plan)) channel)

  -- the plan with n passes of its cycle laid out as start rows; it keeps the tops
  unfoldable pub laid_out : ℕ → List ℕ
  laid_out n = plan_of (channels plan) (start_after n) (cycle_rows plan) (lead_rows plan) (top_of plan) laid_reading (laid_drift n)

  -- the reading of some channel at position t takes more than 32 bits
  unfoldable pub too_large : ℕ → Bool
  too_large t = any_below (λ channel. not (signed_fits 4 (reading_at plan channel t))) (channels plan)

  -- The plan can be written with n passes laid out: its rows are 256 or fewer, and all its readings fit 32 bits.
  unfoldable pub can_be_laid : ℕ → Bool
  can_be_laid n = leb (rows_after n) 256 && not (any_below too_large (rows_after n))
