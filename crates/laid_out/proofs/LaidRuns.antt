-- A plan with passes of its cycle laid out, as bytes: its sizes and its numbers, and that its run is the plan's run.
-- Assumes nothing.
use Prim.Native.Nat.{ℕ, suc, ◌+◌, ◌*◌, ◌-◌, ◌≤◌, ◌<◌}
use native.Mathlib.Decide.{dec_lt}
use native.Mathlib.Omega.{arith}
use mathlib.Core.Path.{◌≡◌, sym, ap, ap₂, ◌∙◌, subst⁻¹}
use mathlib.Core.Bool.{true}
use mathlib.Core.List.{List}
use mathlib.Core.Logic.{by_cases}
use lib.IntN.{ℤ, pos, negsuc, ◌+ℤ◌, ◌*ℤ◌}
use borrow.Author.Tests.{lt-ltb, le-ltb, le-leb, lt-leb}
use Rattle.cltlb.specs.Run.{under}
use Rattle.fields.specs.inner.Ranges.{Bytes, SignedFits}
use Rattle.plan.specs.Layout.{channels, start_rows, cycle_rows, lead_rows, rows, top_of, stored_reading, stored_drift, reading_of, drift_of}
use Rattle.plan.specs.Positions.{row_of, pass_of}
use Rattle.plan.specs.Run.{reading_on, reading_at, lead_at, run_of}
use Rattle.plan.specs.inner.Sizes.{all_rows, Fitting}
use Rattle.plan.specs.declared.sizes.Sizes.{Sizes}
use Rattle.plan.proofs.Rows.{row_lt, row_ge, row_split}
use Rattle.plan.proofs.Lines.{reading_on_pass_0, reading_at_later}
use Rattle.plan.proofs.PlanBytes.{made_cycle, made_rows, made_top, made_reading, made_drift, made_fitting, top_fits, reading_fits, drift_fits}
use Rattle.laid_out.specs.LaidOut.{start_after, rows_after, laid_reading, laid_drift, laid_out, can_be_laid}
use Rattle.laid_out.specs.inner.LaidSizes.{laid_sizes}
use Rattle.laid_out.proofs.CanBeLaid.{few_laid, laid_fits}

-- ---- rows that are laid out

module _ (plan : List ℕ) where
  -- The readings of a lead-in row are as they are,
  pub lead_reading : (k channel : ℕ) → k < lead_rows plan → laid_reading plan k channel ≡ stored_reading plan k channel
  unfolding laid_reading
  lead_reading k channel h = simp (lt-ltb k (lead_rows plan) h)

  -- and those of a row behind it are those at its position.
  pub later_reading : (k channel : ℕ) → lead_rows plan ≤ k → laid_reading plan k channel ≡ reading_at plan channel (k - lead_rows plan)
  unfolding laid_reading
  later_reading k channel h = simp (le-ltb k (lead_rows plan) h)

  pub row_reading : (row channel : ℕ) → laid_reading plan (lead_rows plan + row) channel ≡ reading_at plan channel row
  row_reading row channel =
      let back : lead_rows plan + row - lead_rows plan ≡ row = omega arith in
      later_reading (lead_rows plan + row) channel (omega arith) ∙ ap (reading_at plan channel) back

  -- A row before the cycle has no drift,
  pub early_drift : (n k channel : ℕ) → k < lead_rows plan + start_after plan n → laid_drift plan n k channel ≡ pos 0
  unfolding laid_drift
  early_drift n k channel h = simp (lt-ltb k (lead_rows plan + start_after plan n) h)

  -- and a row of the cycle that of the row which it is a later pass of.
  pub later_drift : (n k channel : ℕ) → lead_rows plan + start_after plan n ≤ k
      → laid_drift plan n k channel ≡ drift_of plan (row_of (start_rows plan) (cycle_rows plan) (k - lead_rows plan)) channel
  unfolding laid_drift
  later_drift n k channel h = simp (le-ltb k (lead_rows plan + start_after plan n) h)

  pub row_drift : (n row channel : ℕ) → start_after plan n ≤ row
      → laid_drift plan n (lead_rows plan + row) channel ≡ drift_of plan (row_of (start_rows plan) (cycle_rows plan) row) channel
  row_drift n row channel h =
      let back : lead_rows plan + row - lead_rows plan ≡ row = omega arith in
      later_drift n (lead_rows plan + row) channel (omega arith) ∙ ap (λ (t : ℕ). drift_of plan (row_of (start_rows plan) (cycle_rows plan) t) channel) back

  -- The cycle does not begin before the plan's.
  pub start_later : (n : ℕ) → start_rows plan ≤ start_after plan n
  unfolding start_after
  start_later n = omega arith

  zero_fits : SignedFits 4 (pos 0)
  unfolding SignedFits
  zero_fits = omega arith

  -- Drifts fit 32 bits.
  pub laid_drift_fits : Bytes plan → (n k channel : ℕ) → SignedFits 4 (laid_drift plan n k channel)
  unfolding drift_of
  laid_drift_fits bytes n k channel =
      by_cases (dec_lt k (lead_rows plan + start_after plan n))
      (λ h. subst⁻¹ (SignedFits 4) (early_drift n k channel h) zero_fits)
      (λ h. subst⁻¹ (SignedFits 4) (later_drift n k channel (omega arith))
      (drift_fits plan bytes (lead_rows plan + row_of (start_rows plan) (cycle_rows plan) (k - lead_rows plan)) channel))

-- ---- as many passes as can be laid out

module _ (plan : List ℕ) {z : Sizes} (fits : Fitting plan z) (n : ℕ) (can : can_be_laid plan n ≡ true) where
  few_channels : channels plan ≤ 8
  few_channels = omega (arith, fits.v_is, fits.few_channels)

  few_rows : start_after plan n + cycle_rows plan ≤ 256
  unfolding rows_after
  few_rows = few_laid plan n can

  few_lead : lead_rows plan ≤ 4
  few_lead = omega (arith, fits.l_is, fits.few_lead)

  a_cycle : 1 ≤ cycle_rows plan
  a_cycle = omega (arith, fits.c_is, fits.a_cycle)

  -- THE SIZES ARE SMALL ENOUGH.
  pub laid_few : (z.channels ≤ 8) × (all_rows (laid_sizes z n) ≤ 256) × (z.lead ≤ 4)
  unfolding rows_after start_after
  laid_few = (fits.few_channels, rw (fits.p_is, fits.c_is) at (few_laid plan n can), fits.few_lead)

  -- The cycle is as long as the plan's, and so many rows are there.
  pub laid_cycle : cycle_rows (laid_out plan n) ≡ cycle_rows plan
  unfolding laid_out
  laid_cycle =
      made_cycle (channels plan) (start_after plan n) (cycle_rows plan) (lead_rows plan) (top_of plan) (laid_reading plan) (laid_drift plan n)
      few_channels few_rows few_lead

  pub laid_rows : rows (laid_out plan n) ≡ all_rows (laid_sizes z n)
  unfolding laid_out start_after
  laid_rows =
      rw (← fits.p_is, ← fits.c_is)
      (made_rows (channels plan) (start_rows plan + n * cycle_rows plan) (cycle_rows plan) (lead_rows plan) (top_of plan) (laid_reading plan) (laid_drift plan n)
      few_channels few_rows few_lead)

  module _ (bytes : Bytes plan) where
    own : Fitting (laid_out plan n) (record { channels = channels plan; start = start_after plan n; cycle = cycle_rows plan; lead = lead_rows plan })
    unfolding laid_out
    own =
        made_fitting (channels plan) (start_after plan n) (cycle_rows plan) (lead_rows plan) (top_of plan) (laid_reading plan) (laid_drift plan n)
        few_channels few_rows few_lead (omega (arith, fits.v_is, fits.a_channel)) a_cycle
        (λ channel within. (top_fits plan bytes channel, fits.no_negative channel (rw (← fits.v_is) within)))

    -- THE SIZES FIT.
    pub laid_fitting : Fitting (laid_out plan n) (laid_sizes z n)
    unfolding start_after
    laid_fitting = rw (fits.v_is, fits.p_is, fits.c_is, fits.l_is) at own

    -- There are as many lead-in rows as the plan has.
    pub laid_lead : lead_rows (laid_out plan n) ≡ lead_rows plan
    laid_lead = own.l_is

    -- The tops are the plan's.
    pub laid_top : (channel : ℕ) → channel < channels plan → top_of (laid_out plan n) channel ≡ top_of plan channel
    unfolding laid_out
    laid_top channel within =
        made_top (channels plan) (start_after plan n) (cycle_rows plan) (lead_rows plan) (top_of plan) (laid_reading plan) (laid_drift plan n)
        few_channels few_rows few_lead channel within (top_fits plan bytes channel)

    -- Its readings fit 32 bits,
    pub laid_reading_fits : (k channel : ℕ) → k < lead_rows plan + rows_after plan n → channel < channels plan → SignedFits 4 (laid_reading plan k channel)
    laid_reading_fits k channel h l =
        by_cases (dec_lt k (lead_rows plan))
        (λ q. subst⁻¹ (SignedFits 4) (lead_reading plan k channel q) (reading_fits plan bytes k channel))
        (λ q. subst⁻¹ (SignedFits 4) (later_reading plan k channel (omega arith)) (laid_fits plan n can (k - lead_rows plan) channel (omega arith) l))

    -- so that they are read back,
    pub laid_reading_lem : (k channel : ℕ) → k < lead_rows plan + rows_after plan n → channel < channels plan → stored_reading (laid_out plan n) k channel ≡ laid_reading plan k channel
    unfolding laid_out rows_after
    laid_reading_lem k channel h l =
        made_reading (channels plan) (start_after plan n) (cycle_rows plan) (lead_rows plan) (top_of plan) (laid_reading plan) (laid_drift plan n)
        few_channels few_rows few_lead k channel h l (laid_reading_fits k channel h l)

    -- and so are its drifts.
    pub laid_drift_lem : (k channel : ℕ) → k < lead_rows plan + rows_after plan n → channel < channels plan → stored_drift (laid_out plan n) k channel ≡ laid_drift plan n k channel
    unfolding laid_out rows_after
    laid_drift_lem k channel h l =
        made_drift (channels plan) (start_after plan n) (cycle_rows plan) (lead_rows plan) (top_of plan) (laid_reading plan) (laid_drift plan n)
        few_channels few_rows few_lead k channel h l (laid_drift_fits plan bytes n k channel)

    module _ (channel : ℕ) (within : channel < channels plan) where
      reading_of_lem : (row : ℕ) → row < rows_after plan n → reading_of (laid_out plan n) row channel ≡ reading_at plan channel row
      unfolding reading_of
      reading_of_lem row h = rw own.l_is (laid_reading_lem (lead_rows plan + row) channel (omega arith) within ∙ row_reading plan row channel)

      drift_of_lem : (row : ℕ) → start_after plan n ≤ row → row < rows_after plan n → drift_of (laid_out plan n) row channel ≡ drift_of plan (row_of (start_rows plan) (cycle_rows plan) row) channel
      unfolding drift_of
      drift_of_lem row low h = rw own.l_is (laid_drift_lem (lead_rows plan + row) channel (omega arith) within ∙ row_drift plan n row channel low)

      abbrev S : ℕ
      S = start_after plan n

      abbrev C : ℕ
      C = cycle_rows plan

      rows_of : rows (laid_out plan n) ≡ rows_after plan n
      unfolding rows rows_after
      rows_of = ap₂ ◌+◌ own.p_is own.c_is

      early : (t : ℕ) → t < S → reading_at (laid_out plan n) channel t ≡ reading_at plan channel t
      unfolding rows_after
      early t h = reading_on_pass_0 (laid_out plan n) channel t (omega (arith, rows_of)) ∙ reading_of_lem t (omega arith)

      later : (t : ℕ) → S ≤ t → reading_at (laid_out plan n) channel t ≡ reading_at plan channel t
      unfolding reading_at reading_on rows_after
      later t h =
          let row : ℕ = row_of S C t in
          let pass : ℕ = pass_of S C t in
          let low = row_ge S C t h in
          let high = row_lt S C a_cycle t in
          rw (own.p_is, own.c_is)
          (ap₂ (λ (x y : ℤ). x +ℤ pos pass *ℤ y) (reading_of_lem row high) (drift_of_lem row low high)
          ∙ sym (reading_at_later plan a_cycle channel row pass (omega (arith, start_later plan n)))
          ∙ ap (reading_at plan channel) (sym (row_split S C a_cycle t h)))

      -- THE READING AT EVERY POSITION IS THE PLAN'S, also where it is pinned,
      pub laid_reading_at : (t : ℕ) → reading_at (laid_out plan n) channel t ≡ reading_at plan channel t
      laid_reading_at t = by_cases (dec_lt t S) (early t) (λ h. later t (omega arith))

      -- and so is that of every lead-in row,
      pub laid_lead_reading : (k : ℕ) → k < lead_rows plan → stored_reading (laid_out plan n) k channel ≡ stored_reading plan k channel
      laid_lead_reading k h = laid_reading_lem k channel (omega arith) within ∙ lead_reading plan k channel h

      -- so that the same is seen in the lead-in and before it.
      pub laid_lead_at : (back : ℕ) → 1 ≤ back → lead_at (laid_out plan n) channel back ≡ lead_at plan channel back
      unfolding lead_at
      laid_lead_at back some =
          rw own.l_is (by_cases (dec_lt (lead_rows plan) back)
          (λ h. simp (lt-leb back (lead_rows plan) h))
          (λ h. rw (le-leb back (lead_rows plan) (omega arith)) (ap₂ under (laid_top channel within) (laid_lead_reading (lead_rows plan - back) (omega arith)))))

      -- ITS RUN IS THE PLAN'S, on the plan's channels.
      pub laid_run : (t : ℤ) → run_of (laid_out plan n) channel t ≡ run_of plan channel t
      unfolding run_of
      laid_run (pos t) = ap₂ under (laid_top channel within) (laid_reading_at t)
      laid_run (negsuc t) = laid_lead_at (suc t) (omega arith)
