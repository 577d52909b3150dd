-- Signed fields of 4 bytes, kept without a sign. Assumes nothing.
use Rattle.std.specs.Prelude.{ℕ, ℤ}
use Rattle.std.proofs.Math.IntN.{sub_ℕ}

-- the patterns of 4 bytes, 2 ^ 32, and half of them
abbrev pub patterns : ℕ
patterns = 4294967296

abbrev pub bias : ℕ
bias = 2147483648

-- a number z is kept as z + 2 ^ 31
abbrev pub unbiased : ℕ → ℤ
unbiased n = sub_ℕ n bias
