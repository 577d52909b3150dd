-- What the code goes by: a mark table whose sizes fit, and many of its bytes looked at at once. Assumes nothing.
use Rattle.std.specs.Prelude.{ℕ, zero, suc, ◌+◌, ◌*◌, ◌≤◌, ◌<◌, ◌≡◌, Bool, true, false, not, ◌&&◌, ◌||◌, List, eqb, length, get_or}
use Rattle.std.specs.Bool.{beq}

-- the test is true of every number below n
unfoldable pub all_below : (ℕ → Bool) → ℕ → Bool
all_below f zero = true
all_below f (suc n) = all_below f n && f n

-- a mark, or its opposite
abbrev pub flipped : Bool → Bool → Bool
flipped false x = x
flipped true x = not x

-- a mark is another one, or its opposite
abbrev pub copy_of : Bool → Bool → Bool → Bool
copy_of opposite m a = beq m (flipped opposite a)

-- the first `count` marks of m are those of a, or their opposites
abbrev pub copies_of : Bool → (ℕ → Bool) → (ℕ → Bool) → ℕ → Bool
copies_of opposite m a count = all_below (λ k. copy_of opposite (m k) (a k)) count

-- a mark is b, or a and next; or it is so of the opposites of all four
abbrev pub step_of : Bool → Bool → Bool → Bool → Bool → Bool
step_of opposite m a b next = beq (flipped opposite m) (flipped opposite b || (flipped opposite a && flipped opposite next))

-- each of the first `count` marks of m is so
abbrev pub steps_of : Bool → (ℕ → Bool) → (ℕ → Bool) → (ℕ → Bool) → (ℕ → Bool) → ℕ → Bool
steps_of opposite m a b next count = all_below (λ k. step_of opposite (m k) (a k) (b k) (next k)) count

-- a byte read as a mark
abbrev pub mark_in : List ℕ → ℕ → Bool
mark_in table k = eqb (get_or table k 0) 1

-- the bytes of the largest table, of 64 parts on 256 rows
abbrev pub most_bytes : ℕ
most_bytes = 16516

-- a table of n parts on w rows
pub record Sized (table : List ℕ) (n w : ℕ) : Type 0 where
  pub few_parts : n ≤ 64
  pub few_rows : w ≤ 256
  pub whole : length table ≡ 4 + n * w + 2 * n

-- `count` bytes from `at` on are there, and are marks, 0 or 1
pub record MarkBytes (table : List ℕ) (at count : ℕ) : Type 0 where
  pub there : at + count ≤ length table
  pub low : (k : ℕ) → k < count → get_or table (at + k) 0 ≤ 1
