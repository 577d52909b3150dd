-- The bytes of a mark table of given marks and witnesses. Assumes nothing.
use Rattle.std.specs.Prelude.{ℕ, Bool, true, false, List, [], ◌∷◌, ◌++◌, map}
use Rattle.fields.specs.LittleEndian.{bytes_of}
use Rattle.fields.specs.Pieces.{pieces}

-- the byte of a mark
abbrev pub byte_of : Bool → ℕ
byte_of true = 1
byte_of false = 0

-- sizes; marks part after part; witnesses
unfoldable pub table_of : ℕ → ℕ → (ℕ → ℕ → Bool) → (ℕ → ℕ) → List ℕ
table_of n w mark witness =
    (bytes_of 2 n ++ bytes_of 2 w)
    ++ (pieces (λ i. pieces (λ row. byte_of (mark i row) ∷ []) w) n ++ pieces (λ i. bytes_of 2 (witness i)) n)

-- as many bytes, all 0
unfoldable pub zeroed : List ℕ → List ℕ
zeroed bytes = map (λ _. 0) bytes
