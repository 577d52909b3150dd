-- E10: no number is a witness for a U b where b is marked on no row. Assumes nothing.
use Prim.Native.Nat.{ℕ, zero, suc, ◌+◌}
use native.Mathlib.Omega.{arith}
use mathlib.Core.Path.{◌≡◌, refl, ap, ◌∙◌}
use mathlib.Core.Bool.{Bool, true, false, ◌&&◌}
use lib.Dec.{ltb, leb-zero}
use borrow.Author.Tests.{le-ltb}
use Rattle.table.specs.Layout.{mark_byte, marked}
use Rattle.marks.specs.Parts.{is_cycle_row}
use Rattle.worked_examples.specs.Table.{marks_e10_1}

-- the one row is row 0, where b, part 1, is marked 0
pub unwitnessed : (lo hi w : ℕ) → (is_cycle_row 0 1 w && marked 1 (marks_e10_1 lo hi) 1 w) ≡ false
unfolding is_cycle_row marked mark_byte
unwitnessed lo hi zero = refl
unwitnessed lo hi (suc w) =
    ap (λ (b : Bool). (b && ltb (suc w) (0 + 1)) && marked 1 (marks_e10_1 lo hi) 1 (suc w)) (leb-zero (suc w))
    ∙ ap (λ (b : Bool). (true && b) && marked 1 (marks_e10_1 lo hi) 1 (suc w)) (le-ltb (suc w) 1 (omega arith))
