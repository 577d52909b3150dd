-- The greatest common divisor, by Euclid's algorithm. Assumes nothing.
use Rattle.std.specs.Prelude.{ℕ, zero, suc, ◌%◌, cond, eqb}

-- n rounds at most
unfoldable pub euclid : ℕ → ℕ → ℕ → ℕ
euclid zero a b = a
euclid (suc n) a b = cond (eqb b 0) a (euclid n b (a % b))

-- The second number gets smaller on each round, so that b rounds are enough.
unfoldable pub gcd : ℕ → ℕ → ℕ
gcd a b = euclid b a b
