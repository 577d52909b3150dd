-- The arithmetic of lifted numbers: a value kept as the value + 1024 × 2 ^ 31 is made of fields kept as their numbers + 2 ^ 31.
-- Assumes nothing.
use Prim.Native.Nat.{ℕ, ◌+◌, ◌*◌, ◌-◌, ◌≤◌, ◌<◌}
use native.Mathlib.Nat.{mul-le-mul_left}
use native.Mathlib.Omega.{arith}
use mathlib.Core.Path.{◌≡◌, sym, ap₂, ◌∙◌}
use lib.IntN.{ℤ, pos, ◌+ℤ◌, ◌*ℤ◌}
use Rattle.fields.proofs.Differences.{sub_same, sub_line}
use Rattle.fields.specs.inner.Biased.{patterns, bias, unbiased}
use Rattle.plan.specs.inner.Lifted.{passes, value_bias, lowered}

-- the value on pass k, of a reading and a drift
pub lifted : (a d k : ℕ) {x y : ℤ} → k < passes → unbiased a ≡ x → unbiased d ≡ y → lowered (a + k * d + (passes - 1 - k) * bias) ≡ x +ℤ pos k *ℤ y
lifted a d k h e f =
    sub_same (a + k * d + (passes - 1 - k) * bias) value_bias (a + k * d) (bias + k * bias) (omega arith)
    ∙ sym (sub_line a bias d bias k)
    ∙ ap₂ (λ (x y : ℤ). x +ℤ pos k *ℤ y) e f

-- what a drift adds in k passes, at most
pub drift_le : (d k : ℕ) → d < patterns → k * d ≤ k * 4294967295
drift_le d k h = mul-le-mul_left k (omega arith)
