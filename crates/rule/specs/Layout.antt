-- The rule sheet's sizes and places. A rule is a formula, given as its subformulas, the parts. Assumes nothing.
use Rattle.std.specs.Prelude.{ℕ, ◌+◌, ◌*◌, List, Bool, ◌&&◌, leb, eqb, length, get_or}
use Rattle.fields.specs.LittleEndian.{number_at}

-- Sizes first: N, the number of parts (2 bytes, 1 to 64), and V, the channels (2 bytes, 1 to 8).
unfoldable pub part_count : List ℕ → ℕ
part_count sheet = number_at 2 sheet 0

unfoldable pub channel_count : List ℕ → ℕ
channel_count sheet = number_at 2 sheet 2

-- Then two parallel arrays: N kind bytes, then N operands of 12 bytes.
unfoldable pub kind_place : ℕ → ℕ
kind_place part = 4 + part

unfoldable pub operand_place : ℕ → ℕ → ℕ
operand_place count part = 4 + count + 12 * part

unfoldable pub kind_byte : List ℕ → ℕ → ℕ
kind_byte sheet part = get_or sheet (kind_place part) 0

-- The length is 4 + 13 × N.
unfoldable pub sizes_fit : List ℕ → Bool
sizes_fit sheet =
    leb 4 (length sheet)
    && ((leb 1 (part_count sheet) && leb (part_count sheet) 64)
    && ((leb 1 (channel_count sheet) && leb (channel_count sheet) 8)
    && eqb (length sheet) (4 + 13 * part_count sheet)))
