-- The numbers of a plan with passes of its cycle laid out, as the code looks them up: lifted, by the row and the pass; all of
-- them fit 32 bits.
-- Assumes nothing.
use Prim.Native.Nat.{ℕ, ◌+◌, ◌*◌, ◌-◌, ◌≤◌, ◌<◌}
use native.Mathlib.Nat.{mul-le-mul}
use native.Mathlib.Omega.{arith}
use mathlib.Core.Path.{◌≡◌, refl, sym, ap, ◌∙◌, subst⁻¹}
use mathlib.Core.Bool.{true}
use mathlib.Core.List.{List}
use lib.IntN.{ℤ, pos, ◌+ℤ◌, ◌*ℤ◌}
use Rattle.fields.specs.inner.Biased.{bias, unbiased}
use Rattle.fields.specs.inner.Ranges.{Bytes, SignedFits}
use Rattle.fields.proofs.Differences.{sub_same, sub_pos}
use Rattle.plan.specs.Layout.{lead_rows, stored_reading, stored_drift, drift_of}
use Rattle.plan.specs.Positions.{row_of, pass_of}
use Rattle.plan.specs.Run.{reading_on, reading_at}
use Rattle.plan.specs.inner.Lifted.{value_bias, lowered}
use Rattle.plan.specs.inner.Sizes.{all_rows, all_stored, most_stored, farthest, Fitting}
use Rattle.plan.specs.declared.sizes.Sizes.{Sizes}
use Rattle.plan.proofs.Lines.{no_passes}
use Rattle.plan.proofs.Arrays.{value_at}
use Rattle.laid_out.specs.LaidOut.{start_after, rows_after, laid_reading, laid_drift, can_be_laid}
use Rattle.laid_out.specs.inner.LaidSizes.{laid_sizes}
use Rattle.laid_out.specs.inner.LaidNumbers.{laid_number}
use Rattle.laid_out.specs.declared.numbers.Array.{Array}
use Rattle.laid_out.specs.declared.numbers.Array.TheVariants.{Readings, Drifts}
use Rattle.laid_out.proofs.LaidRuns.{lead_reading, later_reading, early_drift, later_drift, laid_drift_fits, laid_few, laid_reading_fits}
use Rattle.laid_out.proofs.Words.{least}

-- the passes are fewer than 256 and so are the rows: the product of them is small
pub few_product : (z : Sizes) (n : ℕ) → n < 256 → all_rows z ≤ 256 → n * z.cycle ≤ 65536
few_product z n h l = let a : n ≤ 256 = omega arith in let b : z.cycle ≤ 256 = omega arith in mul-le-mul a b

module _ {plan : List ℕ} {z : Sizes} (fits : Fitting plan z) (k channel : ℕ) where
  -- A reading of the lead-in is what is stored,
  pub lead_value : {x : ℤ} → k < z.lead → x ≡ stored_reading plan k channel +ℤ pos 0 *ℤ stored_drift plan k channel → x ≡ laid_reading plan k channel
  lead_value h e = e ∙ no_passes (stored_reading plan k channel) (stored_drift plan k channel) ∙ sym (lead_reading plan k channel (omega (arith, fits.l_is)))

  -- and another that of a row and a pass, which the lookups reach.
  pub in_reach : k < most_stored → k - z.lead < farthest z
  in_reach h = omega (arith, fits.a_cycle)

  pub later_value : {x : ℤ} {row pass : ℕ} → z.lead ≤ k → row ≡ row_of z.start z.cycle (k - z.lead) → pass ≡ pass_of z.start z.cycle (k - z.lead)
      → x ≡ reading_on plan channel row pass → x ≡ laid_reading plan k channel
  later_value h f g e =
      let back = fits.l_is in
      e ∙ value_at fits channel (k - z.lead) f g
      ∙ ap (λ (l : ℕ). reading_at plan channel (k - l)) (sym back)
      ∙ sym (later_reading plan k channel (omega arith))

  module _ (n : ℕ) where
    start_is : start_after plan n ≡ z.start + n * z.cycle
    unfolding start_after
    start_is = rw (fits.p_is, fits.c_is) refl

    -- No row before the cycle drifts,
    pub no_drift : k < z.lead + (z.start + n * z.cycle) → lowered value_bias ≡ laid_drift plan n k channel
    no_drift h = sub_pos value_bias value_bias (omega arith) ∙ sym (early_drift plan n k channel (omega (arith, fits.l_is, start_is)))

    -- and a row of the cycle as the plan's row does, its field lifted as a value is.
    pub later_lifted : (d : ℕ) {row : ℕ} → z.lead + (z.start + n * z.cycle) ≤ k → row ≡ row_of z.start z.cycle (k - z.lead) → unbiased d ≡ drift_of plan row channel
        → lowered (d + least) ≡ laid_drift plan n k channel
    later_lifted d h f e =
        sub_same (d + least) value_bias d bias (omega arith)
        ∙ e
        ∙ ap (λ (i : ℕ). drift_of plan i channel) f
        ∙ sym (later_drift plan n k channel (omega (arith, fits.l_is, start_is)) ∙ rw (fits.p_is, fits.c_is, fits.l_is) refl)

-- ---- all of them fit 32 bits

-- The rows that are stored are the laid-out plan's.
pub laid_stored : {plan : List ℕ} {z : Sizes} → Fitting plan z → (n : ℕ) → lead_rows plan + rows_after plan n ≡ all_stored (laid_sizes z n)
unfolding rows_after start_after
laid_stored f n = rw (f.p_is, f.c_is, f.l_is) refl

module _ {plan : List ℕ} {z : Sizes} (fits : Fitting plan z) (n : ℕ) (can : can_be_laid plan n ≡ true) where
  -- How many rows are stored at most.
  pub few_laid_rows : all_stored (laid_sizes z n) ≤ most_stored
  few_laid_rows = let few = laid_few plan fits n can in omega (arith, few.1, few.2)

  laid_fits : Bytes plan → (array : Array) (k channel : ℕ) → k < all_stored (laid_sizes z n) → channel < z.channels → SignedFits 4 (laid_number plan n array k channel)
  laid_fits bytes Drifts k channel h l = laid_drift_fits plan bytes n k channel
  laid_fits bytes Readings k channel h l = laid_reading_fits plan fits n can bytes k channel (omega (arith, laid_stored fits n)) (omega (arith, fits.v_is))

  -- A number that was looked up fits.
  pub number_fits : Bytes plan → (array : Array) (k channel : ℕ) → k < all_stored (laid_sizes z n) → channel < z.channels → {x : ℤ} → x ≡ laid_number plan n array k channel → SignedFits 4 x
  number_fits bytes array k channel h l e = subst⁻¹ (SignedFits 4) e (laid_fits bytes array k channel h l)
