-- A list whose front was written over. Assumes nothing.
use Rattle.std.specs.Prelude.{ℕ, List, ◌++◌, length, drop}

-- other bytes at its front, the rest as it was
unfoldable pub fronted : List ℕ → List ℕ → List ℕ
fronted old bytes = bytes ++ drop (length bytes) old
