-- How many passes of a plan's cycle can be laid out: what the test says, fewer than can be, none, and those of a plan in which
-- nothing drifts. Assumes nothing.
use Prim.Native.Nat.{ℕ, ◌+◌, ◌*◌, ◌≤◌, ◌<◌}
use native.Mathlib.Nat.{mul-le-mul_right, le-mul_of_pos_right}
use native.Mathlib.Omega.{arith}
use mathlib.Core.Path.{◌≡◌, ap, ap₂, ◌∙◌, subst⁻¹}
use mathlib.Core.Bool.{true, false, not, ◌&&◌}
use mathlib.Core.List.{List}
use lib.Dec.{leb}
use lib.IntN.{ℤ, pos, ◌+ℤ◌, ◌*ℤ◌, +ℤ_idr, *ℤ-zero}
use borrow.Author.Tests.{le-leb, leb-true, not-true, not-false}
use Rattle.fields.specs.TwosComplement.{signed_fits}
use Rattle.fields.specs.inner.Ranges.{Bytes, SignedFits}
use Rattle.fields.proofs.Patterns.{fits_found, found_fits}
use Rattle.plan.specs.Layout.{channels, start_rows, cycle_rows, lead_rows, rows, reading_of, drift_of}
use Rattle.plan.specs.Positions.{row_of, pass_of}
use Rattle.plan.specs.Run.{reading_on, reading_at}
use Rattle.plan.specs.Layout.{any_below}
use Rattle.plan.specs.inner.Sizes.{Fitting}
use Rattle.plan.specs.declared.sizes.Sizes.{Sizes}
use Rattle.plan.proofs.Rows.{row_lt}
use Rattle.plan.proofs.Lines.{reading_on_pass_0}
use Rattle.plan.proofs.Searches.{none_below, none_each}
use Rattle.plan.proofs.Fits.{both, rows_are}
use Rattle.plan.proofs.PlanBytes.{reading_fits}
use Rattle.laid_out.specs.LaidOut.{start_after, rows_after, too_large, can_be_laid}

module _ (plan : List ℕ) where
  -- The readings of a position are not too large exactly where each of them fits 32 bits.
  pub none_large : (t : ℕ) → ((channel : ℕ) → channel < channels plan → SignedFits 4 (reading_at plan channel t)) → too_large plan t ≡ false
  unfolding too_large
  none_large t h = none_below _ (channels plan) (λ channel l. ap not (fits_found 4 (reading_at plan channel t) (h channel l)))

  pub all_fit : (t : ℕ) → too_large plan t ≡ false → (channel : ℕ) → channel < channels plan → SignedFits 4 (reading_at plan channel t)
  unfolding too_large
  all_fit t e channel l =
      found_fits 4 (reading_at plan channel t)
      (not-false (signed_fits 4 (reading_at plan channel t)) (none_each (λ i. not (signed_fits 4 (reading_at plan i t))) (channels plan) e channel l))

  -- What the test asks for,
  pub can_be : (n : ℕ) → rows_after plan n ≤ 256 → ((t channel : ℕ) → t < rows_after plan n → channel < channels plan → SignedFits 4 (reading_at plan channel t))
      → can_be_laid plan n ≡ true
  unfolding can_be_laid
  can_be n few h = ap₂ ◌&&◌ (le-leb (rows_after plan n) 256 few) (ap not (none_below (too_large plan) (rows_after plan n) (λ t l. none_large t (λ channel q. h t channel l q))))

  -- and what is known where it is met: 256 rows or fewer,
  pub few_laid : (n : ℕ) → can_be_laid plan n ≡ true → rows_after plan n ≤ 256
  unfolding can_be_laid
  few_laid n e = leb-true (rows_after plan n) 256 (both (leb (rows_after plan n) 256) (not (any_below (too_large plan) (rows_after plan n))) e).0

  -- and readings that fit 32 bits.
  pub laid_fits : (n : ℕ) → can_be_laid plan n ≡ true → (t channel : ℕ) → t < rows_after plan n → channel < channels plan → SignedFits 4 (reading_at plan channel t)
  unfolding can_be_laid
  laid_fits n e t channel l q =
      let none = not-true (any_below (too_large plan) (rows_after plan n)) (both (leb (rows_after plan n) 256) (not (any_below (too_large plan) (rows_after plan n))) e).1 in
      all_fit t (none_each (too_large plan) (rows_after plan n) none t l) channel q

  -- The passes are fewer than 256.
  pub passes_few : (n : ℕ) → 1 ≤ cycle_rows plan → can_be_laid plan n ≡ true → n < 256
  unfolding rows_after start_after
  passes_few n some e = let few : start_rows plan + n * cycle_rows plan + cycle_rows plan ≤ 256 = few_laid n e in omega (arith, le-mul_of_pos_right n some)

  -- What can be laid out with k passes can be with fewer.
  pub rows_fewer : (j k : ℕ) → j ≤ k → rows_after plan j ≤ rows_after plan k
  unfolding rows_after start_after
  rows_fewer j k h = omega (arith, mul-le-mul_right (cycle_rows plan) h)

  pub fewer_fit : (j k : ℕ) → j ≤ k → can_be_laid plan k ≡ true → can_be_laid plan j ≡ true
  fewer_fit j k h e =
      let fewer = rows_fewer j k h in
      can_be j (omega (arith, few_laid k e)) (λ t channel l q. laid_fits k e t channel (omega arith) q)

  -- With no pass the rows are the plan's.
  pub rows_first : rows_after plan 0 ≡ rows plan
  unfolding rows_after start_after rows
  rows_first = omega arith

  module _ (bytes : Bytes plan) where
    -- The readings of a row fit 32 bits.
    pub row_reading_fits : (row channel : ℕ) → SignedFits 4 (reading_of plan row channel)
    unfolding reading_of
    row_reading_fits row channel = reading_fits plan bytes (lead_rows plan + row) channel

    -- A plan can be written as it is.
    pub first_fits : {z : Sizes} → Fitting plan z → can_be_laid plan 0 ≡ true
    first_fits fits =
        can_be 0 (omega (arith, rows_first, rows_are fits, fits.few_rows)) (λ t channel l q.
        subst⁻¹ (SignedFits 4) (reading_on_pass_0 plan channel t (omega (arith, rows_first))) (row_reading_fits t channel))

    -- Where nothing drifts, passes can be laid out up to 256 rows.
    module _ {z : Sizes} (fits : Fitting plan z) (still : (row channel : ℕ) → row < rows plan → channel < channels plan → drift_of plan row channel ≡ pos 0) where
      still_reading : (t channel : ℕ) → channel < channels plan → reading_at plan channel t ≡ reading_of plan (row_of (start_rows plan) (cycle_rows plan) t) channel
      unfolding reading_at reading_on rows
      still_reading t channel l =
          let row : ℕ = row_of (start_rows plan) (cycle_rows plan) t in
          let pass : ℕ = pass_of (start_rows plan) (cycle_rows plan) t in
          ap (λ (d : ℤ). reading_of plan row channel +ℤ pos pass *ℤ d) (still row channel (row_lt (start_rows plan) (cycle_rows plan) (omega (arith, fits.c_is, fits.a_cycle)) t) l)
          ∙ ap (λ (d : ℤ). reading_of plan row channel +ℤ d) (*ℤ-zero (pos pass))
          ∙ +ℤ_idr (reading_of plan row channel)

      pub still_fits : (n : ℕ) → rows_after plan n ≤ 256 → can_be_laid plan n ≡ true
      still_fits n few = can_be n few (λ t channel l q. subst⁻¹ (SignedFits 4) (still_reading t channel q) (row_reading_fits (row_of (start_rows plan) (cycle_rows plan) t) channel))
