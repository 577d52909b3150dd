-- Two plans of one run, with cycles of one length: every part has the same truth at the same position of both, and is settled on one
-- plan exactly where its truth on the other repeats from where the cycle of the one begins. Assumes nothing.
use mathlib.Core.Path.{◌≡◌, sym, subst}
use mathlib.Core.Bool.{true}
use mathlib.Core.List.{List}
use mathlib.Core.Logic.Iff
use mathlib.Core.Logic.{◌↔◌}
use Prim.Native.Nat.{ℕ, ◌+◌, ◌≤◌, ◌<◌}
use native.Mathlib.Omega.{arith}
use lib.IntN.{ℤ}
use Rattle.cltlb.specs.Fits.{view_fits}
use Rattle.cltlb.specs.declared.View.{View}
use Rattle.cltlb.proofs.SameRun.{same_truth}
use Rattle.cltlb.proofs.Repeats.{RepeatsFrom}
use Rattle.plan.specs.Layout.{start_rows, cycle_rows}
use Rattle.plan.specs.Run.{run_of}
use Rattle.marks.specs.Meaning.{Truth, PartSettled}
use Rattle.marks.proofs.Repeating.{settled_repeats}

module _ (A B : List ℕ) (some_cycle : 1 ≤ cycle_rows A) (same_cycle : cycle_rows B ≡ cycle_rows A) (parts : ℕ → View) (v n : ℕ)
    (fits : (i : ℕ) → i < n → view_fits v i (parts i) ≡ true)
    (same_run_lem : (c : ℕ) → c < v → (t : ℤ) → run_of B c t ≡ run_of A c t) where
  -- The second plan has cycle rows as well.
  pub other_cycle : 1 ≤ cycle_rows B
  other_cycle = omega arith

  -- Part i is true at a position of the second plan where it is at that of the first.
  pub run_truth : (i : ℕ) → i < n → (t : ℕ) → Truth parts B i t ↔ Truth parts A i t
  unfolding Truth
  run_truth i l t = same_truth (run_of B) (run_of A) v same_run_lem parts n fits i l t

  -- Part i is settled on the second plan exactly where its truth on the first repeats from the second one's cycle on.
  pub run_settled : (i : ℕ) → i < n → PartSettled parts B i ↔ RepeatsFrom (cycle_rows A) (start_rows B) (Truth parts A i)
  run_settled i l = Iff.trans (settled_repeats parts B other_cycle i) (
    λ h t q. Iff.trans (Iff.symm (run_truth i l t)) (Iff.trans (by_cycle same_cycle h t q) (run_truth i l (t + cycle_rows A))),
    λ h. by_cycle (sym same_cycle) (λ t q. Iff.trans (run_truth i l t) (Iff.trans (h t q) (Iff.symm (run_truth i l (t + cycle_rows A))))),
  )
    where
      by_cycle : {c d : ℕ} → c ≡ d → RepeatsFrom c (start_rows B) (Truth parts B i) → RepeatsFrom d (start_rows B) (Truth parts B i)
      by_cycle e h = subst (λ (c : ℕ). RepeatsFrom c (start_rows B) (Truth parts B i)) e h
