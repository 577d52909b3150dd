-- The refusals of a plan, 4 to 6, in the order of checking. Assumes nothing.
use Rattle.std.specs.Prelude.{ℕ, ◌+◌, ◌-◌, List, Bool, false, not, eqb, ℤ, pos, negsuc}
use Rattle.refusal.specs.Outcome.{Outcome}
use Rattle.refusal.specs.declared.Refusal.{Refusal}
use Rattle.refusal.specs.declared.Refusal.TheVariants.{PlanSizes, Channels, StartDrift}
use Rattle.refusal.specs.First.{◌or_else◌, unless, at_lowest}
use Rattle.plan.specs.Layout.{channels, start_rows, lead_rows, any_below, sizes_fit, stored_drift}

unfoldable pub is_zero : ℤ → Bool
is_zero (pos n) = eqb n 0
is_zero (negsuc n) = false

-- the k-th row that is stored has a drift other than 0: at a channel, and at some channel
unfoldable pub drifts_at : List ℕ → ℕ → ℕ → Bool
drifts_at plan k channel = not (is_zero (stored_drift plan k channel))

unfoldable pub drifting : List ℕ → ℕ → Bool
drifting plan k = any_below (drifts_at plan k) (channels plan)

-- the row that is named of the k-th that is stored, behind a lead-in of so many rows: its number, and row 0 for a lead-in row
unfoldable pub named_row : ℕ → ℕ → ℕ
named_row lead k = k - lead

-- the refusal of the k-th row that is stored, for its drift
abbrev pub drift_refusal : ℕ → ℕ → Refusal
drift_refusal lead k = StartDrift (named_row lead k)

-- 4 The plan has fewer than 8 bytes, V, C, W or L outside its range, the wrong length, or a negative top. 5 The plan's V differs from the
-- rule's, v. 6 A lead-in row or a start row has a drift other than 0 (lowest row; lead-in rows first, named as row 0).
unfoldable pub plan_outcome : ℕ → List ℕ → Outcome
plan_outcome v plan =
    unless (sizes_fit plan) PlanSizes
    or_else unless (eqb (channels plan) v) Channels
    or_else at_lowest (drifting plan) (lead_rows plan + start_rows plan) (drift_refusal (lead_rows plan))
