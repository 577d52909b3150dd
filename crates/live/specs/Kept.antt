-- The newest rows, as the state keeps them: five rows of eight channels, the oldest row first. Assumes nothing.
use Rattle.std.specs.Prelude.{ℕ, zero, suc, ◌+◌, ◌*◌, ◌-◌, ◌%◌, cond, not, ◌&&◌, List, [], ◌∷◌, leb, ltb, eqb, get_or}
use Rattle.std.proofs.Math.IntN.{sub_ℕ}
use Rattle.cltlb.specs.Run.{Seen, number, pinned, before_run}
use Rattle.fields.specs.LittleEndian.{number_at}

-- f 0, f 1 and on, n of them
unfoldable pub tabulated : ℕ → (ℕ → ℕ) → List ℕ
tabulated zero f = []
tabulated (suc n) f = f 0 ∷ tabulated n (λ k. f (suc k))

-- A number z of 4 bytes, of which the pattern is given, is kept as z + 2 ^ 31.
unfoldable pub kept : ℕ → ℕ
kept pattern = (pattern + 2147483648) % 4294967296

-- What is kept of a pinned reading is 2 ^ 32, above every number; the next number stands for no reading.
abbrev pub pinned_kept : ℕ
pinned_kept = 4294967296

abbrev pub unseen : ℕ
unseen = 4294967297

-- what is seen of what is kept
unfoldable pub seen_of : ℕ → Seen
seen_of n = cond (ltb n pinned_kept) (number (sub_ℕ n 2147483648)) (cond (eqb n pinned_kept) pinned before_run)

-- a reading under its channel's top: pinned when it is at or above a top that is not 0
unfoldable pub kept_under : ℕ → ℕ → ℕ
kept_under top n = cond (not (eqb top 0) && leb (top + 2147483648) n) pinned_kept n

-- what is kept of a channel of a new row, of which the v readings have 4 bytes each
unfoldable pub new_reading : List ℕ → List ℕ → ℕ → ℕ → ℕ
new_reading tops row v channel = cond (ltb channel v) (kept_under (get_or tops channel 0) (kept (number_at 4 row (4 * channel)))) 0

-- The oldest row goes, and the new row comes behind the others.
unfoldable pub reading_after : List ℕ → List ℕ → List ℕ → ℕ → ℕ → ℕ
reading_after readings tops row v j = cond (ltb j 32) (get_or readings (j + 8) 0) (new_reading tops row v (j - 32))

unfoldable pub readings_after : List ℕ → List ℕ → List ℕ → ℕ → List ℕ
readings_after readings tops row v = tabulated 40 (reading_after readings tops row v)
