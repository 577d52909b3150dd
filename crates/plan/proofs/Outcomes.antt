-- The refusals of a plan, one law for each way that the check ends, and what a plan has that is not refused. Assumes nothing.
use Rattle.std.specs.Prelude.{Ok, Err, Some, None}
use Prim.Native.Nat.{ℕ, ◌+◌, ◌<◌}
use native.Mathlib.Omega.{arith}
use mathlib.Core.Path.{◌≡◌, refl, sym, ap, ◌∙◌}
use mathlib.Core.Bool.{false}
use mathlib.Core.List.{List}
use borrow.Author.Tests.{eq-eqb, ne_eqb, eqb-true}
use Rattle.refusal.specs.First.{◌or_else◌, unless, at_lowest}
use Rattle.refusal.specs.Outcome.{Outcome, unrefused}
use Rattle.refusal.specs.declared.Refusal.{Refusal}
use Rattle.refusal.specs.declared.Refusal.TheVariants.{PlanSizes, Channels}
use Rattle.refusal.proofs.First.{or_else_clear, unless_clear, at_lowest_clear}
use Rattle.plan.specs.Layout.{channels, start_rows, lead_rows, sizes_fit}
use Rattle.plan.specs.inner.Sizes.{sizes_in, sizes_read, Fitting}
use Rattle.plan.specs.inner.Drifts.{StoredStill}
use Rattle.plan.specs.inner.Read.{read_of, plan_read}
use Rattle.plan.specs.Refusals.{drifting, drift_refusal, plan_outcome}
use Rattle.plan.specs.declared.sizes.Sizes.{Sizes}
use Rattle.plan.proofs.Fits.{fitting, fits_true, sizes_are, counted, unfit}
use Rattle.plan.proofs.Drifts.{row_quiet}

module _ (v : ℕ) (plan : List ℕ) where
  pub sizes_refused : sizes_read plan ≡ None → Err PlanSizes ≡ plan_read v plan
  unfolding plan_read plan_outcome unless ◌or_else◌
  sizes_refused e = simp (unfit plan e)

  module _ {z : Sizes} (counts : sizes_read plan ≡ Some z) where
    pub channels_refused : (z.channels ≡ v → ⊥) → Err Channels ≡ plan_read v plan
    unfolding plan_read plan_outcome unless ◌or_else◌
    channels_refused h = let fits = counted plan counts in simp (fits_true fits, fits.v_is, ne_eqb _ _ h)

    module _ (same : z.channels ≡ v) (r : Outcome) (found : r ≡ at_lowest (drifting plan) (z.lead + z.start) (drift_refusal z.lead)) where
      drifts_remain : r ≡ plan_outcome v plan
      unfolding plan_outcome unless ◌or_else◌
      drifts_remain = let fits = counted plan counts in found ∙ simp (fits_true fits, fits.v_is, fits.p_is, fits.l_is, eq-eqb _ _ same)

      pub drifts_refused : {refusal : Refusal} → r ≡ Err refusal → Err refusal ≡ plan_read v plan
      unfolding plan_read
      drifts_refused e = ap (read_of plan) (sym e ∙ drifts_remain)

      pub fits_read : r ≡ unrefused → Ok z ≡ plan_read v plan
      unfolding plan_read
      fits_read e = ap Ok (sym (sizes_are (counted plan counts))) ∙ ap (read_of plan) (sym e ∙ drifts_remain)

    -- rows before the cycle that were found still at once
    pub still_read : z.channels ≡ v → StoredStill plan 0 (z.lead + z.start) → Ok z ≡ plan_read v plan
    unfolding StoredStill
    still_read same h =
        fits_read same unrefused
        (sym ((at_lowest_clear (drifting plan) (z.lead + z.start) (drift_refusal z.lead)).1 (λ k l. row_quiet plan k (λ channel g. h k channel (omega arith) l g)))) refl

  -- A plan that is not refused fits the rule, and its rows before the cycle do not drift.
  pub cleared : plan_outcome v plan ≡ unrefused → Fitting plan (sizes_in plan) × (channels plan ≡ v) × ((k : ℕ) → k < lead_rows plan + start_rows plan → drifting plan k ≡ false)
  unfolding plan_outcome
  cleared e =
      let one = (or_else_clear _ _).0 e in
      let two = (or_else_clear _ _).0 one.1 in
      let fits = (unless_clear (sizes_fit plan) PlanSizes).0 one.0 in
      let same = eqb-true (channels plan) v ((unless_clear _ Channels).0 two.0) in
      (fitting plan fits, same, (at_lowest_clear (drifting plan) (lead_rows plan + start_rows plan) (drift_refusal (lead_rows plan))).0 two.1)

  -- What is read of a plan tells whether it is refused.
  pub read_clear : (z : Sizes) → plan_read v plan ≡ Ok z → (plan_outcome v plan ≡ unrefused) × Fitting plan z × (z.channels ≡ v)
  unfolding plan_read
  read_clear z e = go (plan_outcome v plan) refl e
    where
      go : (o : Outcome) → plan_outcome v plan ≡ o → read_of plan o ≡ Ok z → (plan_outcome v plan ≡ unrefused) × Fitting plan z × (z.channels ≡ v)
      go (Ok _) h k = let all = cleared h in let same : sizes_in plan ≡ z = cc in (h, rw same at all.0, ap (λ (y : Sizes). y.channels) (sym same) ∙ all.1)
      go (Err r) h k = let n : ◌≡◌ {A = ℕ} 0 1 = cc in absurd (omega arith)

  pub read_refused : (r : Refusal) → plan_read v plan ≡ Err r → plan_outcome v plan ≡ Err r
  unfolding plan_read
  read_refused r e = go (plan_outcome v plan) refl e
    where
      go : (o : Outcome) → plan_outcome v plan ≡ o → read_of plan o ≡ Err r → plan_outcome v plan ≡ Err r
      go (Ok _) h k = let n : ◌≡◌ {A = ℕ} 0 1 = cc in absurd (omega arith)
      go (Err s) h k = let same : s ≡ r = cc in h ∙ ap Err same
