-- A part is settled exactly where its truth repeats from the first cycle row on, and then it differs on no row. Assumes nothing.
use mathlib.Core.Path.{◌≡◌, sym, subst}
use mathlib.Core.List.{List}
use mathlib.Core.Logic.Iff
use mathlib.Core.Logic.{◌↔◌}
use Prim.Native.Nat.{ℕ, suc, ◌+◌, ◌*◌, ◌≤◌}
use native.Mathlib.Omega.{arith}
use Rattle.cltlb.specs.declared.View.{View}
use Rattle.cltlb.proofs.Repeats.{RepeatsFrom, repeats_passes}
use Rattle.plan.specs.Layout.{start_rows, cycle_rows}
use Rattle.plan.specs.Positions.{pass_of}
use Rattle.marks.specs.Meaning.{Truth, SameOn, DiffersOn, PartSettled}
use Rattle.marks.proofs.Rows.{row_at, from_start, is_row, row_and_pass}

-- What is the same on all passes of a row does not hold on one pass and fail on another.
pub same_differs : (plan : List ℕ) (F : ℕ → Type 0) (row : ℕ) → SameOn plan F row → ¬ DiffersOn plan F row
unfolding SameOn DiffersOn
same_differs plan F row same d = d.1.1 ((same d.1.0).0 ((same d.0.0).1 d.0.1))

-- On each cycle row a part has the same truth on all passes exactly where, from row P on, its truth is what it is a cycle later.
pub settled_repeats : (parts : ℕ → View) (plan : List ℕ) → 1 ≤ cycle_rows plan → (i : ℕ)
    → PartSettled parts plan i ↔ RepeatsFrom (cycle_rows plan) (start_rows plan) (Truth parts plan i)
unfolding PartSettled SameOn
settled_repeats parts plan some_cycle i = (
  λ h t l.
      let row : ℕ = row_at plan t in
      let pass : ℕ = pass_of (start_rows plan) (cycle_rows plan) t in
      let same = h row (from_start plan t l) (is_row plan some_cycle t) in
      let now : row + pass * cycle_rows plan ≡ t = sym (row_and_pass plan some_cycle t l) in
      let next : row + suc pass * cycle_rows plan ≡ t + cycle_rows plan = omega arith in
      Iff.trans (Iff.symm (subst (λ (x : ℕ). F row ↔ F x) now (same pass))) (subst (λ (x : ℕ). F row ↔ F x) next (same (suc pass))),
  λ r row low high k. repeats_passes (cycle_rows plan) (start_rows plan) F r k row low,
)
  where
    F : ℕ → Type 0
    F = Truth parts plan i
