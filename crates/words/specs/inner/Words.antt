-- Marks as bits: a word of 8 bytes for each row, the lowest byte first, with a bit for each part. Assumes nothing.
use Rattle.std.specs.Prelude.{ℕ, ◌+◌, ◌*◌, ◌/◌, ◌%◌, ◌^◌, ◌≡◌, Bool, List, eqb, length}
use Rattle.fields.specs.LittleEndian.{number_at}
use Rattle.table.specs.Bytes.{byte_of}

-- as many parts and rows as there can be
abbrev pub most_parts : ℕ
most_parts = 64

abbrev pub most_rows : ℕ
most_rows = 256

-- a word for each row
abbrev pub Room : List ℕ → Type 0
Room scratch = length scratch ≡ 8 * most_rows

-- the word of a row
unfoldable pub word_on : List ℕ → ℕ → ℕ
word_on scratch row = number_at 8 scratch (8 * row)

-- the bit of a part
unfoldable pub bit_of : ℕ → ℕ → Bool
bit_of word part = eqb (word / 2 ^ part % 2) 1

-- the bits of the parts below a part, and a bit for that one
unfoldable pub with_bit : ℕ → ℕ → Bool → ℕ
with_bit word part mark = byte_of mark * 2 ^ part + word % 2 ^ part

-- the mark of a part on a row
unfoldable pub mark_at : List ℕ → ℕ → ℕ → Bool
mark_at scratch part row = bit_of (word_on scratch row) part
