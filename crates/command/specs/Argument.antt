-- The number that an argument of a program stands for. Assumes nothing.
use Rattle.std.specs.Prelude.{ℕ, ◌+◌, ◌*◌, ◌-◌, List, [], ◌∷◌, Bool, ◌&&◌, cond, min, leb}

-- names no part and no row: a part is below 64, and a row below 256
abbrev pub no_number : ℕ
no_number = 65536

-- a number with one more decimal digit, given as its ASCII byte; a larger number than 65536 is kept as 65536
abbrev pub with_digit : ℕ → ℕ → ℕ
with_digit n digit = min (10 * n + (digit - 48)) no_number

-- the bytes that stand for 0 to 9
abbrev pub is_digit : ℕ → Bool
is_digit byte = leb 48 byte && leb byte 57

-- the number n with digits behind it; none where a byte is no digit
unfoldable pub with_digits : ℕ → List ℕ → ℕ
with_digits n [] = n
with_digits n (byte ∷ bytes) = cond (is_digit byte) (with_digits (with_digit n byte) bytes) no_number

-- an argument that is empty or missing stands for no number
unfoldable pub argument_of : List ℕ → ℕ
argument_of [] = no_number
argument_of (byte ∷ bytes) = with_digits 0 (byte ∷ bytes)
