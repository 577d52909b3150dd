-- A table that is refused, by what its first part at fault says (RefusalMeans). Assumes nothing.
use Rattle.std.specs.Prelude.{Err}
use mathlib.Core.Path.{◌≡◌}
use mathlib.Core.Bool.{Bool, true}
use mathlib.Core.List.{List}
use Prim.Native.Nat.{ℕ, ◌≤◌, ◌<◌}
use native.Mathlib.Omega.{arith}
use Rattle.cltlb.specs.Fits.{view_fits}
use Rattle.cltlb.specs.declared.View.{View}
use Rattle.refusal.specs.First.{in_turn}
use Rattle.refusal.specs.declared.Refusal.{Refusal}
use Rattle.refusal.proofs.First.{in_turn_refused}
use Rattle.plan.specs.Layout.{cycle_rows}
use Rattle.marks.specs.Parts.{part_outcome}
use Rattle.marks.proofs.Accepted.{below}
use Rattle.marks.proofs.RefusalMeans.{Means, part_means}

module _ (plan : List ℕ) (h_c : 1 ≤ cycle_rows plan) (parts : ℕ → View) (v n : ℕ)
    (fits : (i : ℕ) → i < n → view_fits v i (parts i) ≡ true) (mark : ℕ → ℕ → Bool) (witness : ℕ → ℕ) where
  -- A table that is refused: the first part at fault says so, and every lower one is right.
  pub refused_means : (r : Refusal) → in_turn (λ i. part_outcome plan mark (parts i) i (witness i)) n ≡ Err r → Means plan parts n mark witness r
  refused_means r e =
      let p = in_turn_refused (λ i. part_outcome plan mark (parts i) i (witness i)) n r e in
      let l = p.1 in
      part_means plan h_c parts v n fits mark witness p.0 l (below plan h_c parts v n fits mark witness p.0 (omega arith) p.2) r p.3
