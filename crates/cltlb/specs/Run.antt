-- A run: what is seen of each channel at each position. Assumes nothing.
use Rattle.std.specs.Prelude.{ℕ, Bool, true, cond, not, ◌&&◌, eqb, ℤ, pos, negsuc}
use Rattle.std.specs.Int.Signed.{le_z}

-- What is seen at a position: a whole number; that the reading is pinned, which stands for no number; or nothing, because the position
-- is before the run.
pub data Seen : Type 0 where
  number : ℤ → Seen
  pinned : Seen
  before_run : Seen

-- 0 means no top.
unfoldable pub is_top : ℤ → Bool
is_top (pos n) = not (eqb n 0)
is_top (negsuc n) = true

-- A value is pinned when it is at or above a top that is not 0.
unfoldable pub is_pinned : ℤ → ℤ → Bool
is_pinned top z = is_top top && le_z top z

-- what is seen of a value under a top
unfoldable pub under : ℤ → ℤ → Seen
under top z = cond (is_pinned top z) pinned (number z)

-- A run gives what is seen of a channel at a position. Positions are whole numbers, since a term may reach below 0.
abbrev pub Run : Type 0
Run = ℕ → ℤ → Seen
