-- The number of rows of each table. Assumes nothing.
use Prim.Native.Nat.{ℕ}
use mathlib.Core.Path.{◌≡◌, refl}
use lib.ListN.{length}
use Rattle.worked_examples.specs.Table.{examples}
use Rattle.worked_examples.specs.More.{more}

pub counted : (lo hi : ℕ) → 19 ≡ length (examples lo hi)
unfolding examples
counted lo hi = refl

pub counted_more : 165 ≡ length more
unfolding more
counted_more = refl
