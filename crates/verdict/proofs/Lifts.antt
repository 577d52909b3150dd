-- Constants and shifts, signed numbers of 32 bits, kept without a sign. Assumes nothing.
use Prim.Native.Nat.{ℕ, suc, ◌+◌, ◌*◌, ◌-◌, ◌≤◌}
use native.Mathlib.Omega.{arith}
use mathlib.Core.Path.{◌≡◌, ap, ◌∙◌}
use mathlib.Core.Bool.{true}
use lib.IntN.{ℤ, pos, negsuc, sub_ℕ}
use mir.Syntax.{w32}
use mir.Val.{SFits}
use Rattle.cltlb.specs.Fits.{shift_fits}
use Rattle.cltlb.proofs.Fits.{ShiftIn, shift_in}
use Rattle.fields.specs.inner.Biased.{bias, unbiased}
use Rattle.fields.specs.TwosComplement.{signed_of, pattern_of}
use Rattle.fields.proofs.Differences.{sub_same, sub_eq, pos_sub, negsuc_sub}
use Rattle.fields.proofs.Patterns.{signed_pattern, fits_w32}
use Rattle.plan.specs.inner.Lifted.{passes, value_bias, lowered}
use Rattle.verdict.specs.inner.Reach.{back}

-- a number of an `i32` from its pattern
pub lifts : (z : ℤ) (n b : ℕ) → SFits w32 z → n ≡ pattern_of 4 z → unbiased b ≡ signed_of 4 n → unbiased b ≡ z
lifts z n b f e g = g ∙ ap (signed_of 4) e ∙ signed_pattern 4 z (fits_w32 z f)

module _ (b : ℕ) where
  lift_on : (n : ℕ) → unbiased b ≡ pos n → b ≡ bias + n
  lift_on n e = let h = (sub_eq b bias n 0).0 (e ∙ pos_sub n) in omega arith

  lift_back : (n : ℕ) → unbiased b ≡ negsuc n → b + suc n ≡ bias
  lift_back n e = let h = (sub_eq b bias 0 (suc n)).0 (e ∙ negsuc_sub n) in omega arith

  pub constant_is : (z : ℤ) → unbiased b ≡ z → lowered (b + (passes - 1) * bias) ≡ z
  constant_is z e = sub_same (b + (passes - 1) * bias) value_bias b bias (omega arith) ∙ e

  pub code_range : (s : ℤ) → shift_fits s ≡ true → unbiased b ≡ s → (bias - 4 ≤ b) × (b ≤ bias + 4)
  code_range s f e = go s (shift_in s f) e
    where
      go : (s : ℤ) → ShiftIn s → unbiased b ≡ s → (bias - 4 ≤ b) × (b ≤ bias + 4)
      go (pos n) f e = omega (arith, lift_on n e)
      go (negsuc n) f e = omega (arith, lift_back n e)

  pub code_is : (s : ℤ) → bias - 4 ≤ b → unbiased b ≡ s → sub_ℕ (b - (bias - 4)) 4 ≡ s
  code_is s h e = sub_same (b - (bias - 4)) 4 b bias (omega arith) ∙ e

  pub reaches : (s : ℤ) → unbiased b ≡ s → bias - b ≡ back s
  unfolding back
  reaches (pos n) e = omega (arith, lift_on n e)
  reaches (negsuc n) e = omega (arith, lift_back n e)
