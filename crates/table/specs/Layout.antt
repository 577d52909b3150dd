-- The mark table's layout, and refusals 7 and 8. Marks are a labelling of the rows with subformulas; a witness is that of an
-- eventuality, which a U promises and the negation of an R. Assumes nothing.
use Rattle.std.specs.Prelude.{ℕ, ◌+◌, ◌*◌, List, Bool, ◌&&◌, leb, ltb, eqb, length, get_or}
use Rattle.fields.specs.LittleEndian.{number_at}
use Rattle.refusal.specs.Outcome.{Outcome}
use Rattle.refusal.specs.declared.Refusal.TheVariants.{MarkSizes, MarkByte}
use Rattle.refusal.specs.First.{◌or_else◌, unless, at_lowest, in_turn}

-- Sizes: N and W (2 bytes each), which are the rule's and the plan's, n and w. The length is 4 + N × W + 2 × N.
unfoldable pub sizes_fit : ℕ → ℕ → List ℕ → Bool
sizes_fit n w table =
    leb 4 (length table)
    && (eqb (number_at 2 table 0) n && (eqb (number_at 2 table 2) w && eqb (length table) (4 + n * w + 2 * n)))

-- Then two parallel arrays: N × W mark bytes, part after part (1 true, 0 false),
unfoldable pub mark_byte : ℕ → List ℕ → ℕ → ℕ → ℕ
mark_byte w table part row = get_or table (4 + (part * w + row)) 0

-- the row is labelled with the subformula
unfoldable pub marked : ℕ → List ℕ → ℕ → ℕ → Bool
marked w table part row = eqb (mark_byte w table part row) 1

-- and N witnesses, of eventualities, of 2 bytes.
unfoldable pub witness_of : ℕ → ℕ → List ℕ → ℕ → ℕ
witness_of n w table part = number_at 2 table (4 + n * w + 2 * part)

-- a mark byte is above 1
unfoldable pub above_one : ℕ → List ℕ → ℕ → ℕ → Bool
above_one w table part row = ltb 1 (mark_byte w table part row)

-- 8 of one part: its lowest row with such a byte
unfoldable pub bytes_outcome : ℕ → List ℕ → ℕ → Outcome
bytes_outcome w table part = at_lowest (above_one w table part) w (MarkByte part)

-- 7 The mark table has fewer than 4 bytes, another N or W, or the wrong length. 8 A mark byte is above 1 (lowest part, then
-- lowest row).
unfoldable pub table_outcome : ℕ → ℕ → List ℕ → Outcome
table_outcome n w table = unless (sizes_fit n w table) MarkSizes or_else in_turn (bytes_outcome w table) n
