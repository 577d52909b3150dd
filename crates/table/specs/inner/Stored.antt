-- A list of bytes some of which were written over. Assumes nothing.
use Rattle.std.specs.Prelude.{ℕ, ◌+◌, ◌≤◌, ◌<◌, ◌≡◌, List, ◌⊎◌, length, get_or}

-- `new` is `old`, but its bytes from `at + low` to below `at + high` are given: byte `at + k` is `bytes k`
pub record Stored (old new : List ℕ) (at low high : ℕ) (bytes : ℕ → ℕ) : Type 0 where
  pub long : length new ≡ length old
  pub inside : (k : ℕ) → low ≤ k → k < high → get_or new (at + k) 0 ≡ bytes k
  pub outside : (j : ℕ) → (j < at + low) ⊎ (at + high ≤ j) → get_or new j 0 ≡ get_or old j 0
