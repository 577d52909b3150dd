-- Rows some of whose words or marks were written over. Assumes nothing.
use Rattle.std.specs.Prelude.{ℕ, ◌-◌, ◌≤◌, ◌<◌, ◌≡◌, Bool, List, ◌⊎◌, length}
use Rattle.words.specs.inner.Words.{word_on, mark_at}

-- `new` is `old`, but a row has the word that is given
pub record WordPut (old new : List ℕ) (row word : ℕ) : Type 0 where
  pub long : length new ≡ length old
  pub there : word_on new row ≡ word
  pub others : (r : ℕ) → (r < row) ⊎ (row < r) → word_on new r ≡ word_on old r

-- each row from `from` to below `end` has the word of the row a cycle before it; those before and behind them have the old ones
pub record RowsRepeated (old new : List ℕ) (cycle from end : ℕ) : Type 0 where
  pub long : length new ≡ length old
  pub kept : (row : ℕ) → row < from → word_on new row ≡ word_on old row
  pub behind : (row : ℕ) → end ≤ row → word_on new row ≡ word_on old row
  pub again : (row : ℕ) → from ≤ row → row < end → word_on new row ≡ word_on new (row - cycle)

-- the marks of a part on the rows from `low` to below `high` are given; the words of other rows, and the marks of lower parts, are the
-- old ones
pub record Marked (old new : List ℕ) (part low high : ℕ) (mark : ℕ → Bool) : Type 0 where
  pub long : length new ≡ length old
  pub own : (row : ℕ) → low ≤ row → row < high → mark_at new part row ≡ mark row
  pub others : (row : ℕ) → (row < low) ⊎ (high ≤ row) → word_on new row ≡ word_on old row
  pub lower : (a : ℕ) → a < part → (row : ℕ) → mark_at new a row ≡ mark_at old a row
