-- A value as the code keeps it, the value + 2 ^ 41, as a word of 32 bits: whether it fits, and its pattern. Assumes nothing.
use Prim.Native.Nat.{ℕ, suc, ◌*◌, ◌-◌, ◌%◌, ◌^◌, ◌≤◌, ◌<◌}
use native.Mathlib.Decide.{dec_lt}
use native.Mathlib.Omega.{arith}
use mathlib.Core.Path.{◌≡◌}
use mathlib.Core.Logic.{by_cases}
use mathlib.Core.Bool.{false}
use lib.Dec.{ltb}
use borrow.Author.Tests.{lt-ltb, le-ltb, le-leb, lt-leb}
use Rattle.fields.specs.TwosComplement.{pattern_of, signed_fits}
use Rattle.fields.specs.inner.Biased.{patterns}
use Rattle.fields.specs.inner.Ranges.{SignedFits}
use Rattle.fields.proofs.Differences.{sub_pos, sub_neg}
use Rattle.plan.specs.inner.Lifted.{value_bias, lowered}

-- the numbers of 32 bits, lifted as values are: the least of them, and the end of them
abbrev pub least : ℕ
least = 2196875771904

abbrev pub end : ℕ
end = 2201170739200

-- A value below them does not fit,
pub below_word : (n : ℕ) → n < least → false ≡ signed_fits 4 (lowered n)
unfolding signed_fits
below_word n h = rw (sub_neg n value_bias (omega arith)) (simp (lt-leb (2 * suc (value_bias - suc n)) (256 ^ 4) (omega arith)))

-- and another fits where it is before their end.
pub word_test : (n : ℕ) → least ≤ n → ltb n end ≡ signed_fits 4 (lowered n)
unfolding signed_fits
word_test n h =
    by_cases (dec_lt n value_bias)
    (λ l. rw (sub_neg n value_bias l) (simp (lt-ltb n end (omega arith), le-leb (2 * suc (value_bias - suc n)) (256 ^ 4) (omega arith))))
    (λ l. rw (sub_pos n value_bias (omega arith)) (by_cases (dec_lt n end)
    (λ q. simp (lt-ltb n end q, lt-ltb (2 * (n - value_bias)) (256 ^ 4) (omega arith)))
    (λ q. simp (le-ltb n end (omega arith), le-ltb (2 * (n - value_bias)) (256 ^ 4) (omega arith)))))

-- 2 ^ 41 is a multiple of 2 ^ 32, so that the pattern of one that fits is the remainder.
pub word_pattern : (n : ℕ) → SignedFits 4 (lowered n) → n % patterns ≡ pattern_of 4 (lowered n)
unfolding pattern_of SignedFits
word_pattern n =
    by_cases (dec_lt n value_bias)
    (λ q. rw (sub_neg n value_bias q) (λ h. omega arith))
    (λ q. rw (sub_pos n value_bias (omega arith)) (λ h. omega arith))
