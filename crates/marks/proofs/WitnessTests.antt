-- The row that a witness names. Assumes nothing.
use Prim.Native.Nat.{ℕ, ◌+◌, ◌≤◌, ◌<◌}
use mathlib.Core.Path.{◌≡◌, ◌∙◌}
use mathlib.Core.Bool.{Bool}
use borrow.Author.Tests.{lt-ltb, le-leb}
use Rattle.marks.specs.Parts.{is_cycle_row, names}

module _ (P C w : ℕ) (test : ℕ → Bool) where
  pub in_cycle : P ≤ w → w < P + C → {x : Bool} → x ≡ test w → x ≡ names P C test w
  unfolding names is_cycle_row
  in_cycle h l e = e ∙ simp (le-leb P w h, lt-ltb w (P + C) l)
