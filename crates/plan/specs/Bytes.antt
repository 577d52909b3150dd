-- The bytes of a plan of given sizes, tops, readings and drifts. Assumes nothing.
use Rattle.std.specs.Prelude.{ℕ, ◌+◌, List, ◌++◌, ℤ}
use Rattle.fields.specs.LittleEndian.{bytes_of}
use Rattle.fields.specs.TwosComplement.{pattern_of}
use Rattle.fields.specs.Pieces.{pieces}

-- a number as 4 bytes, signed
unfoldable pub word : ℤ → List ℕ
word z = bytes_of 4 (pattern_of 4 z)

-- w rows of v numbers, row after row
unfoldable pub array_of : ℕ → ℕ → (ℕ → ℕ → ℤ) → List ℕ
array_of v w number = pieces (λ k. pieces (λ channel. word (number k channel)) v) w

-- the sizes V, P, C and L
unfoldable pub head_of : ℕ → ℕ → ℕ → ℕ → List ℕ
head_of v p c l = bytes_of 2 v ++ (bytes_of 2 p ++ (bytes_of 2 c ++ bytes_of 2 l))

-- v tops
unfoldable pub tops_of : ℕ → (ℕ → ℤ) → List ℕ
tops_of v top = pieces (λ channel. word (top channel)) v

-- sizes; tops; readings of the rows that are stored; drifts
unfoldable pub plan_of : ℕ → ℕ → ℕ → ℕ → (ℕ → ℤ) → (ℕ → ℕ → ℤ) → (ℕ → ℕ → ℤ) → List ℕ
plan_of v p c l top reading drift = head_of v p c l ++ (tops_of v top ++ (array_of v (l + (p + c)) reading ++ array_of v (l + (p + c)) drift))
