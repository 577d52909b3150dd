-- A term in six bytes: form, shift code, number (4 bytes, signed). Assumes nothing.
use Rattle.std.specs.Prelude.{Option, Some, None, ℕ, ◌+◌, ◌-◌, List, ◌∷◌, cond, eqb, get_or, ℤ, pos, negsuc}
use Rattle.std.proofs.Math.IntN.{sub_ℕ}
use Rattle.fields.specs.LittleEndian.{number_at, bytes_of}
use Rattle.fields.specs.TwosComplement.{signed_at, pattern_of}
use Rattle.cltlb.specs.declared.Term.{Term}
use Rattle.cltlb.specs.declared.Term.TheVariants.{Constant, Reading}

-- shift code 0 to 8 means a shift of -4 to 4 positions
unfoldable pub shift_of : ℕ → ℤ
shift_of code = sub_ℕ code 4

unfoldable pub code_of : ℤ → ℕ
code_of (pos n) = 4 + n
code_of (negsuc n) = 3 - n

-- Form 0 is a constant: shift code 4. Form 1 is a reading: the shift code, and the number is the channel.
unfoldable pub term_bytes : Term → List ℕ
term_bytes (Constant z) = 0 ∷ 4 ∷ bytes_of 4 (pattern_of 4 z)
term_bytes (Reading channel shift) = 1 ∷ code_of shift ∷ bytes_of 4 channel

-- the term that six bytes from `at` on stand for
unfoldable pub term_at : List ℕ → ℕ → Option Term
term_at s at =
    cond (eqb (get_or s at 0) 0)
    (cond (eqb (get_or s (at + 1) 0) 4) (Some (Constant (signed_at 4 s (at + 2)))) None)
    (cond (eqb (get_or s at 0) 1) (Some (Reading (number_at 4 s (at + 2)) (shift_of (get_or s (at + 1) 0)))) None)
