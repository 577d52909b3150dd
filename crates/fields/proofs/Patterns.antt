-- Two's complement in every width: a number's pattern stands for it, and what a pattern stands for has that pattern.
-- Assumes nothing.
use Prim.Native.Nat.{ℕ, suc, ◌+◌, ◌*◌, ◌-◌, ◌^◌, ◌≤◌, ◌<◌}
use native.Mathlib.Omega.{arith}
use mathlib.Core.Path.{◌≡◌, refl, sym, ap, ◌∙◌, subst}
use mathlib.Core.Bool.{Bool, true, false}
use lib.Dec.{ltb}
use lib.IntN.{ℤ, pos, negsuc}
use borrow.Author.Tests.{lt-ltb, le-ltb, le-leb, ltb-true, ltb-false, leb-true}
use mir.Syntax.{w32}
use mir.Val.{SFits, to_z, of_z}
use mir.ValLaws.{to_z-of_z}
use Rattle.fields.specs.TwosComplement.{signed_of, pattern_of, signed_fits}
use Rattle.fields.specs.inner.Biased.{bias}
use Rattle.fields.specs.inner.Ranges.{SignedFits}

module _ (w n : ℕ) where
  -- the lower half of the patterns
  pub signed_low : 2 * n < 256 ^ w → pos n ≡ signed_of w n
  unfolding signed_of
  signed_low h = simp (lt-ltb _ _ h)

  -- the upper half
  pub signed_high : (m : ℕ) → 256 ^ w ≤ 2 * n → m + suc n ≡ 256 ^ w → negsuc m ≡ signed_of w n
  unfolding signed_of
  signed_high m h e =
      let below : n < 256 ^ w = omega arith in
      simp (le-ltb _ _ h, lt-ltb _ _ below) (ap negsuc (omega arith))

  pub pattern_signed : n < 256 ^ w → pattern_of w (signed_of w n) ≡ n
  unfolding pattern_of
  pattern_signed h = go (ltb (2 * n) (256 ^ w)) refl
    where
      go : (b : Bool) → ltb (2 * n) (256 ^ w) ≡ b → pattern_of w (signed_of w n) ≡ n
      go true e = ap (pattern_of w) (sym (signed_low (ltb-true (2 * n) (256 ^ w) e)))
      go false e =
          let high : 256 ^ w ≤ 2 * n = ltb-false (2 * n) (256 ^ w) e in
          ap (pattern_of w) (sym (signed_high (256 ^ w - suc n) high (omega arith))) ∙ omega arith

pub signed_pattern : (w : ℕ) (z : ℤ) → SignedFits w z → signed_of w (pattern_of w z) ≡ z
unfolding pattern_of SignedFits
signed_pattern w (pos n) h = sym (signed_low w n h)
signed_pattern w (negsuc n) h = sym (signed_high w (256 ^ w - suc n) n (omega arith) (omega arith))

pub pattern_lt : (w : ℕ) (z : ℤ) → SignedFits w z → pattern_of w z < 256 ^ w
unfolding pattern_of SignedFits
pattern_lt w (pos n) h = omega arith
pattern_lt w (negsuc n) h = omega arith

pub signed_fits_lem : (w n : ℕ) → n < 256 ^ w → SignedFits w (signed_of w n)
unfolding SignedFits
signed_fits_lem w n h = go (ltb (2 * n) (256 ^ w)) refl
  where
    go : (b : Bool) → ltb (2 * n) (256 ^ w) ≡ b → SignedFits w (signed_of w n)
    go true e = subst (SignedFits w) (signed_low w n (ltb-true (2 * n) (256 ^ w) e)) (ltb-true (2 * n) (256 ^ w) e)
    go false e =
        let high : 256 ^ w ≤ 2 * n = ltb-false (2 * n) (256 ^ w) e in
        subst (SignedFits w) (signed_high w n (256 ^ w - suc n) high (omega arith)) (omega arith)

-- the test finds the numbers that w bytes can hold
pub fits_found : (w : ℕ) (z : ℤ) → SignedFits w z → signed_fits w z ≡ true
unfolding SignedFits signed_fits
fits_found w (pos n) h = lt-ltb (2 * n) (256 ^ w) h
fits_found w (negsuc n) h = le-leb (2 * suc n) (256 ^ w) h

pub found_fits : (w : ℕ) (z : ℤ) → signed_fits w z ≡ true → SignedFits w z
unfolding SignedFits signed_fits
found_fits w (pos n) e = ltb-true (2 * n) (256 ^ w) e
found_fits w (negsuc n) e = leb-true (2 * suc n) (256 ^ w) e

-- a number of an `i32` fits four bytes
pub fits_w32 : (z : ℤ) → SFits w32 z → SignedFits 4 z
unfolding SignedFits
fits_w32 (pos n) f = let h : n < bias = f.sfits in omega arith
fits_w32 (negsuc n) f = let h : n < bias = f.sfits in omega arith

-- and the other way round
pub w32_fits : (z : ℤ) → SignedFits 4 z → SFits w32 z
unfolding SignedFits
w32_fits (pos n) h = record { sfits = omega arith }
w32_fits (negsuc n) h = record { sfits = omega arith }

-- the bits of an `i32` are its pattern
pub bits_pattern : (z : ℤ) → SFits w32 z → of_z w32 z ≡ pattern_of 4 z
unfolding pattern_of
bits_pattern (pos n) f = refl
bits_pattern (negsuc n) f = refl

-- what the bits of a pattern stand for
pub pattern_bits : (n : ℕ) → n < 256 ^ 4 → to_z w32 n ≡ signed_of 4 n
pattern_bits n h =
    let fits = signed_fits_lem 4 n h in
    ap (to_z w32) (sym (pattern_signed 4 n h) ∙ sym (bits_pattern (signed_of 4 n) (w32_fits _ fits))) ∙ to_z-of_z w32 (signed_of 4 n) (w32_fits _ fits)
