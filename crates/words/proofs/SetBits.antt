-- Setting a bit of a word, and reading one. Assumes nothing.
use Prim.Native.Nat.{ℕ, suc, ◌+◌, ◌*◌, ◌-◌, ◌/◌, ◌%◌, ◌^◌, ◌<◌}
use native.Mathlib.Nat.{mod-lt, mul_assoc, add_comm, add-mul-mod_self_right, one-mul, zero-mul, pow-suc}
use native.Mathlib.Omega.{arith}
use mathlib.Core.Path.{◌≡◌, refl, sym, ap, ◌∙◌, subst⁻¹}
use mathlib.Core.Bool.{Bool, true, false}
use lib.Dec.{eqb}
use lib.Pow.{pow_pos, pow_mono, pow-add, high, field, mod-mod-pow, shl_exact}
use Rattle.table.specs.Bytes.{byte_of}
use Rattle.table.proofs.TableBytes.{read_byte}
use Rattle.words.specs.inner.Words.{most_parts, bit_of, with_bit}

-- a mark as a number of one bit
low_bit : (mark : Bool) → byte_of mark % 2 ≡ byte_of mark
low_bit true = refl
low_bit false = refl

module _ (word part : ℕ) (mark : Bool) where
  -- The bit is there,
  set_there : bit_of (with_bit word part mark) part ≡ mark
  unfolding bit_of with_bit
  set_there =
      ap (λ (x : ℕ). eqb (x % 2) 1) (high (byte_of mark) part (mod-lt word (pow_pos part)))
      ∙ ap (λ (x : ℕ). eqb x 1) (low_bit mark)
      ∙ read_byte mark

  -- and does not show in the digits below it,
  digits_kept : (j k : ℕ) → part ≡ j + k → with_bit word part mark % 2 ^ k ≡ word % 2 ^ k
  unfolding with_bit
  digits_kept j k e =
      let up : byte_of mark * 2 ^ part ≡ byte_of mark * 2 ^ j * 2 ^ k = ap (λ (x : ℕ). byte_of mark * 2 ^ x) e ∙ ap (λ (x : ℕ). byte_of mark * x) (pow-add 2 j k) ∙ sym (mul_assoc (byte_of mark) (2 ^ j) (2 ^ k)) in
      ap (λ (x : ℕ). x % 2 ^ k) (add_comm (byte_of mark * 2 ^ part) (word % 2 ^ part) ∙ ap (λ (x : ℕ). word % 2 ^ part + x) up)
      ∙ add-mul-mod_self_right (word % 2 ^ part) (byte_of mark * 2 ^ j) (2 ^ k)
      ∙ ap (λ (x : ℕ). word % 2 ^ x % 2 ^ k) e
      ∙ mod-mod-pow word j k

  -- so that the bits of lower parts are what they were.
  set_lower : (a : ℕ) → a < part → bit_of (with_bit word part mark) a ≡ bit_of word a
  unfolding bit_of
  set_lower a l =
      let apart : part ≡ part - (1 + a) + (1 + a) = omega arith in
      ap (λ (x : ℕ). eqb x 1)
      (sym (field (with_bit word part mark) 1 a)
      ∙ ap (λ (x : ℕ). x / 2 ^ a) (digits_kept (part - (1 + a)) (1 + a) apart)
      ∙ field word 1 a)

  -- The law of setting and reading a bit.
  pub bit_set : (bit_of (with_bit word part mark) part ≡ mark) × ((a : ℕ) → a < part → bit_of (with_bit word part mark) a ≡ bit_of word a)
  bit_set = (set_there, set_lower)

-- ---- in words of 64 bits

module _ (part : ℕ) (l : part < most_parts) where
  -- One bit is not shifted out.
  pub one_shifted : (1 * 2 ^ part) % 2 ^ 64 ≡ 2 ^ part
  one_shifted = shl_exact 1 part 64 (omega arith) (omega arith) ∙ one-mul (2 ^ part)

  module _ {one : ℕ} (is : one ≡ 2 ^ part) where
    pub one_positive : 0 < one
    one_positive = subst⁻¹ (λ (x : ℕ). 0 < x) is (pow_pos part)

    -- There is room for it above the bits of lower parts.
    pub one_fits : (word : ℕ) → word % one + one < 2 ^ 64
    one_fits word =
        subst⁻¹ (λ (x : ℕ). word % x + x < 2 ^ 64) is
        (omega (arith, mod-lt word (pow_pos part), pow-suc 2 part, pow_mono {i = suc part} {j = 64} (omega arith)))

    -- The bit is set or not.
    pub set_as : (word : ℕ) (mark : Bool) → mark ≡ true → word % one + one ≡ with_bit word part mark
    unfolding with_bit
    set_as word mark e =
        subst⁻¹ (λ (x : ℕ). word % x + x ≡ byte_of mark * 2 ^ part + word % 2 ^ part) is
        (subst⁻¹ (λ (m : Bool). word % 2 ^ part + 2 ^ part ≡ byte_of m * 2 ^ part + word % 2 ^ part) e (omega (arith, one-mul (2 ^ part))))

    pub unset_as : (word : ℕ) (mark : Bool) → mark ≡ false → word % one ≡ with_bit word part mark
    unfolding with_bit
    unset_as word mark e =
        subst⁻¹ (λ (x : ℕ). word % x ≡ byte_of mark * 2 ^ part + word % 2 ^ part) is
        (subst⁻¹ (λ (m : Bool). word % 2 ^ part ≡ byte_of m * 2 ^ part + word % 2 ^ part) e (omega (arith, zero-mul (2 ^ part))))
