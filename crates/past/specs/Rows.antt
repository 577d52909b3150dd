-- The rows of a run, the newest first. Assumes nothing.
use Rattle.std.specs.Prelude.{ℕ, ◌<◌, ◌≡◌, Bool, false, cond, List, [], ◌∷◌, eqb, length, ℤ, pos, negsuc}
use Rattle.cltlb.specs.Run.{Seen, before_run, Run}

-- what is seen of each channel on a row
abbrev pub Row : Type 0
Row = ℕ → Seen

abbrev pub is_position : ℕ → ℤ → Bool
is_position n (pos p) = eqb p n
is_position n (negsuc p) = false

-- A row stands at the position that is the number of rows before it. No row stands elsewhere.
unfoldable pub run_of : List Row → Run
run_of [] c z = before_run
run_of (row ∷ rows) c z = cond (is_position (length rows) z) (row c) (run_of rows c z)

-- An endless run that begins with these rows: it shows them at their positions, and nothing before position 0.
unfoldable pub BeginsWith : Run → List Row → Type 0
BeginsWith q rows = (c : ℕ) → ((t : ℕ) → t < length rows → q c (pos t) ≡ run_of rows c (pos t)) × ((n : ℕ) → q c (negsuc n) ≡ before_run)
