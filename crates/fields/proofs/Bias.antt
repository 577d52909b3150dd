-- A signed field kept without a sign: the number plus half the number of patterns. Assumes nothing.
use Prim.Native.Nat.{ℕ, suc, ◌+◌, ◌*◌, ◌-◌, ◌%◌, ◌^◌, ◌≤◌, ◌<◌}
use native.Mathlib.Nat.{mod-eq_of_lt, add-mod_right}
use native.Mathlib.Decide.{dec_lt}
use native.Mathlib.Omega.{arith}
use mathlib.Core.Path.{◌≡◌, ap, ◌∙◌}
use mathlib.Core.Logic.{by_cases}
use lib.IntN.{pos, sub_ℕ}
use Rattle.fields.specs.TwosComplement.{signed_of}
use Rattle.fields.proofs.Differences.{sub_pos, sub_neg}
use Rattle.fields.proofs.Patterns.{signed_low, signed_high}

-- the patterns are 2 * half
module _ (w half n : ℕ) (e : 256 ^ w ≡ 2 * half) (h : n < 2 * half) where
  low : n < half → sub_ℕ ((n + half) % (2 * half)) half ≡ signed_of w n
  low l =
      rw (mod-eq_of_lt {n = n + half} {m = 2 * half} (omega arith))
      (sub_pos (n + half) half (omega arith) ∙ ap pos (omega arith) ∙ signed_low w n (omega arith))

  high : half ≤ n → sub_ℕ ((n + half) % (2 * half)) half ≡ signed_of w n
  high l =
      ap (λ (x : ℕ). sub_ℕ x half) wraps
      ∙ sub_neg (n - half) half (omega arith)
      ∙ signed_high w n (half - suc (n - half)) (omega arith) (omega arith)
    where
      over : n + half ≡ (n - half) + 2 * half
      over = omega arith

      wraps : (n + half) % (2 * half) ≡ n - half
      wraps = ap (λ (x : ℕ). x % (2 * half)) over ∙ add-mod_right (n - half) (2 * half) ∙ mod-eq_of_lt (omega arith)

  -- a pattern plus half of the patterns, without the carry, is the number that it stands for plus half of them
  pub biased_signed : sub_ℕ ((n + half) % (2 * half)) half ≡ signed_of w n
  biased_signed = by_cases (dec_lt n half) low (λ l. high (omega arith))
