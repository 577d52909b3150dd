-- Lists of bytes, and the signed numbers that bytes can hold. Assumes nothing.
use Rattle.std.specs.Prelude.{ℕ, suc, ◌*◌, ◌^◌, ◌≤◌, ◌<◌, List, ℤ, pos, negsuc, get_or}

-- every element is a byte
unfoldable pub Bytes : List ℕ → Type 0
Bytes s = (i : ℕ) → get_or s i 0 < 256

-- the numbers that w bytes can hold
unfoldable pub SignedFits : ℕ → ℤ → Type 0
SignedFits w (pos n) = 2 * n < 256 ^ w
SignedFits w (negsuc n) = 2 * suc n ≤ 256 ^ w
