-- Marks that a sweep makes row after row, each by the one before it or after it. Assumes nothing.
use Rattle.std.specs.Prelude.{ℕ, zero, suc, ◌+◌, Bool, false, ◌&&◌, ◌||◌, List}
use Rattle.table.specs.inner.Tables.{flipped, mark_in}

-- b, or a and what comes before it, row after row; nothing comes before the first
unfoldable pub carried : (ℕ → Bool) → (ℕ → Bool) → ℕ → Bool
carried a b zero = b zero || (a zero && false)
carried a b (suc k) = b (suc k) || (a (suc k) && carried a b k)

-- b, or a and what comes after it, over k rows from t on; `end` comes after the last
unfoldable pub backed : (ℕ → Bool) → (ℕ → Bool) → Bool → ℕ → ℕ → Bool
backed a b end zero t = end
backed a b end (suc k) t = b t || (a t && backed a b end k (suc t))

-- the marks from a place on, or their opposites
abbrev pub marks_from : Bool → List ℕ → ℕ → ℕ → Bool
marks_from opposite table at k = flipped opposite (mark_in table (at + k))
