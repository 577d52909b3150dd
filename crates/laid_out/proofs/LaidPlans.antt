-- A plan that is not refused, with passes of its cycle laid out, is not refused; with no pass laid out it is the plan.
-- Assumes nothing.
use Rattle.refusal.specs.Outcome.{unrefused}
use Prim.Native.Nat.{ℕ, ◌+◌, ◌*◌, ◌-◌, ◌≤◌, ◌<◌}
use native.Mathlib.Decide.{dec_lt}
use native.Mathlib.Omega.{arith}
use mathlib.Core.Path.{◌≡◌, refl, sym, ap, ◌∙◌, subst}
use mathlib.Core.Bool.{true}
use mathlib.Core.List.{List}
use mathlib.Core.Logic.{by_cases}
use borrow.Author.Tests.{eq-eqb}
use Rattle.fields.specs.inner.Ranges.{Bytes}
use Rattle.refusal.specs.declared.Refusal.TheVariants.{PlanSizes, Channels}
use Rattle.refusal.proofs.First.{or_else_clear, unless_clear, at_lowest_clear}
use Rattle.plan.specs.Layout.{channels, start_rows, cycle_rows, lead_rows, rows, stored_rows, top_of, stored_reading, stored_drift, reading_of, drift_of}
use Rattle.plan.specs.Refusals.{drifting, drift_refusal, plan_outcome}
use Rattle.plan.specs.inner.Sizes.{sizes_in, Fitting}
use Rattle.plan.proofs.Rows.{row_start}
use Rattle.plan.proofs.Lines.{reading_on_pass_0}
use Rattle.plan.proofs.Drifts.{row_quiet, quiet_row}
use Rattle.plan.proofs.Fits.{fits_true}
use Rattle.plan.proofs.Outcomes.{cleared}
use Rattle.plan.proofs.PlanBytes.{plan_again}
use Rattle.laid_out.specs.LaidOut.{start_after, rows_after, laid_reading, laid_drift, laid_out, can_be_laid}
use Rattle.laid_out.proofs.LaidRuns.{lead_reading, later_reading, early_drift, later_drift, laid_fitting, laid_drift_lem}

module _ (plan : List ℕ) (bytes : Bytes plan) (v : ℕ) (clear : plan_outcome v plan ≡ unrefused) where
  fits : Fitting plan (sizes_in plan)
  fits = (cleared v plan clear).0

  -- WITH PASSES LAID OUT IT IS NOT REFUSED: its sizes fit, its channels are the plan's, and nothing drifts before its cycle.
  pub laid_clear : (n : ℕ) → can_be_laid plan n ≡ true → plan_outcome v (laid_out plan n) ≡ unrefused
  unfolding plan_outcome start_after rows_after
  laid_clear n can =
      let own = laid_fitting plan fits n can bytes in
      (or_else_clear _ _).1 (
        (unless_clear _ PlanSizes).1 (fits_true own),
        (or_else_clear _ _).1 (
          (unless_clear _ Channels).1 (eq-eqb _ _ (own.v_is ∙ (cleared v plan clear).1)),
          rw (own.l_is, own.p_is) ((at_lowest_clear (drifting (laid_out plan n)) (lead_rows plan + (start_rows plan + n * cycle_rows plan)) (drift_refusal (lead_rows plan))).1 (λ k h.
              row_quiet (laid_out plan n) k (λ channel l.
              let there : channel < channels plan = subst (λ (x : ℕ). channel < x) own.v_is l in
              laid_drift_lem plan fits n can bytes k channel (omega arith) there ∙ early_drift plan n k channel h))),
        ),
      )

  start_first : start_after plan 0 ≡ start_rows plan
  unfolding start_after
  start_first = omega arith

  module _ (k channel : ℕ) (h : k < stored_rows plan) where
    behind : lead_rows plan ≤ k → lead_rows plan + (k - lead_rows plan) ≡ k
    behind l = omega arith

    first_reading : laid_reading plan k channel ≡ stored_reading plan k channel
    unfolding reading_of stored_rows
    first_reading =
        by_cases (dec_lt k (lead_rows plan)) (lead_reading plan k channel) (λ q. let l : lead_rows plan ≤ k = omega arith in
        later_reading plan k channel l
        ∙ reading_on_pass_0 plan channel (k - lead_rows plan) (omega arith)
        ∙ ap (λ (i : ℕ). stored_reading plan i channel) (behind l))

    first_drift : channel < channels plan → laid_drift plan 0 k channel ≡ stored_drift plan k channel
    unfolding drift_of stored_rows rows
    first_drift l =
        by_cases (dec_lt k (lead_rows plan + start_after plan 0))
        (λ q. early_drift plan 0 k channel q ∙ sym (quiet_row plan k ((cleared v plan clear).2 k (omega (arith, start_first))) channel l))
        (λ q. let low : lead_rows plan + start_after plan 0 ≤ k = omega arith in
        later_drift plan 0 k channel low
        ∙ ap (λ (i : ℕ). stored_drift plan (lead_rows plan + i) channel) (row_start (start_rows plan) (cycle_rows plan) (k - lead_rows plan) (omega (arith, start_first)))
        ∙ ap (λ (i : ℕ). stored_drift plan i channel) (behind (omega arith)))

  -- WITH NO PASS LAID OUT IT IS WRITTEN AS IT WAS.
  pub laid_none : laid_out plan 0 ≡ plan
  unfolding laid_out
  laid_none = rw start_first (plan_again plan bytes fits (top_of plan) (laid_reading plan) (laid_drift plan 0) (λ channel l. refl) (λ k channel h l. first_reading k channel h) first_drift)
