-- A plan's refusals are 4 to 6, and two bytes hold the row that one names. Assumes nothing.
use Prim.Native.Nat.{ℕ, ◌+◌}
use native.Mathlib.Omega.{arith}
use mathlib.Core.List.{List}
use lib.Dec.{eqb}
use Rattle.refusal.specs.declared.Refusal.TheVariants.{PlanSizes, Channels}
use Rattle.refusal.specs.First.{◌or_else◌, unless, at_lowest}
use Rattle.refusal.proofs.First.{unless_clear}
use Rattle.refusal.proofs.RefusesOnly.{Within, RefusesOnly, or_else_only, unless_only, at_lowest_only}
use Rattle.plan.specs.Layout.{channels, start_rows, lead_rows, sizes_fit}
use Rattle.plan.specs.Refusals.{drifting, named_row, drift_refusal, plan_outcome}
use Rattle.plan.proofs.Fits.{fitting}

pub plan_within : (v : ℕ) (plan : List ℕ) → RefusesOnly (Within 4 6) (plan_outcome v plan)
unfolding plan_outcome named_row
plan_within v plan =
    or_else_only (Within 4 6) (unless (sizes_fit plan) PlanSizes) (unless (eqb (channels plan) v) Channels or_else at_lowest (drifting plan) (lead_rows plan + start_rows plan) (drift_refusal (lead_rows plan)))
    (unless_only (Within 4 6) (sizes_fit plan) PlanSizes (omega arith))
    (λ e.
    let few = (fitting plan ((unless_clear (sizes_fit plan) PlanSizes).0 e)).few_rows in
    or_else_only (Within 4 6) (unless (eqb (channels plan) v) Channels) (at_lowest (drifting plan) (lead_rows plan + start_rows plan) (drift_refusal (lead_rows plan)))
    (unless_only (Within 4 6) (eqb (channels plan) v) Channels (omega arith))
    (λ _. at_lowest_only (Within 4 6) (drifting plan) (lead_rows plan + start_rows plan) (drift_refusal (lead_rows plan)) (λ j h. omega arith)))
