-- The lowest number at which a test is true. Assumes nothing.
use Rattle.std.specs.Prelude.{ℕ, zero, suc, Bool, true, false}
use Rattle.std.proofs.Math.Option.{Option, none, some}

-- k itself where the test is true of it, else what the numbers after it give
unfoldable pub or_after : Bool → ℕ → Option ℕ → Option ℕ
or_after true k rest = some k
or_after false k rest = rest

-- the lowest of the n numbers from k on at which the test is true
unfoldable pub lowest_from : (ℕ → Bool) → ℕ → ℕ → Option ℕ
lowest_from f k zero = none
lowest_from f k (suc n) = let rest = lowest_from f (suc k) n in or_after (f k) k rest

-- the lowest of the numbers below n at which the test is true
unfoldable pub lowest : (ℕ → Bool) → ℕ → Option ℕ
lowest f n = lowest_from f 0 n
