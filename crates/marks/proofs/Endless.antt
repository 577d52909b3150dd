-- The equations of 001 on the endless run: what a mark at position t has to be, by the marks at the positions. Assumes nothing.
use Prim.Native.Nat.{ℕ, zero, suc}
use mathlib.Core.Bool.{Bool}
use mathlib.Core.List.{List}
use mathlib.Core.Logic.{◌↔◌}
use lib.Dec.{T}
use Rattle.cltlb.specs.declared.View.{View}
use Rattle.cltlb.specs.declared.View.TheVariants.{Atom, Operator}
use Rattle.verdict.specs.Rows.{atom_at}
use Rattle.marks.specs.declared.operators.Beside.{Beside}
use Rattle.marks.specs.declared.operators.Beside.TheVariants.{After, Before}
use Rattle.marks.specs.Equations.{beside_of, step_on, watched_truth}
use Rattle.marks.proofs.Rows.{row_at}

-- The marks at the positions are the truth of a statement.
abbrev pub Agrees : (ℕ → Bool) → (ℕ → Type 0) → Type 0
Agrees m A = (t : ℕ) → T (m t) ↔ A t

-- the mark at the position beside a position
abbrev pub beside_at : Beside → (ℕ → Bool) → ℕ → Bool
beside_at After m t = m (suc t)
beside_at (Before first) m zero = first
beside_at (Before first) m (suc t) = m t

-- The marks of part i of a plan's table at the positions.
module _ (plan : List ℕ) (mark : ℕ → ℕ → Bool) where
  abbrev pub mark_at : ℕ → ℕ → Bool
  mark_at i t = mark i (row_at plan t)

  -- What the mark of a part at a position has to be, by its own marks at the positions or what stands for them.
  unfoldable pub due : View → (ℕ → Bool) → ℕ → Bool
  due (Atom x) own t = atom_at plan x t
  due (Operator o) own t = step_on mark o (row_at plan t) (beside_at (beside_of o) (λ s. watched_truth mark o (own s) (row_at plan s)) t)
