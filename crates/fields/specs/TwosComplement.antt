-- Signed fields: two's complement in w bytes. Assumes nothing.
use Rattle.std.specs.Prelude.{ℕ, suc, ◌*◌, ◌-◌, ◌^◌, Bool, cond, List, leb, ltb, ℤ, pos, negsuc}
use Rattle.std.proofs.Math.IntN.{sub_ℕ}
use Rattle.fields.specs.LittleEndian.{number_at}

-- the lower half of the patterns of w bytes stand for themselves, the upper half for themselves less 256 ^ w
unfoldable pub signed_of : ℕ → ℕ → ℤ
signed_of w n = cond (ltb (2 * n) (256 ^ w)) (pos n) (sub_ℕ n (256 ^ w))

-- the pattern of a number; negsuc n is -(n + 1)
unfoldable pub pattern_of : ℕ → ℤ → ℕ
pattern_of w (pos n) = n
pattern_of w (negsuc n) = 256 ^ w - suc n

-- the number that the w bytes from `at` on stand for
unfoldable pub signed_at : ℕ → List ℕ → ℕ → ℤ
signed_at w s at = signed_of w (number_at w s at)

-- a number is one that w bytes can hold
unfoldable pub signed_fits : ℕ → ℤ → Bool
signed_fits w (pos n) = ltb (2 * n) (256 ^ w)
signed_fits w (negsuc n) = leb (2 * suc n) (256 ^ w)
