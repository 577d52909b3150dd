-- A comparison that changes on no cycle row is at every position what it is on the position's row, and the other way round.
-- Assumes nothing.
use Rattle.refusal.specs.Outcome.{unrefused}
use mathlib.Core.Path.{◌≡◌, refl, sym, ap, ◌∙◌}
use mathlib.Core.Bool.{true, false}
use mathlib.Core.List.{List}
use mathlib.Core.Logic.Iff
use mathlib.Core.Logic.{◌↔◌, by_cases}
use Prim.Native.Nat.{ℕ, ◌≤◌, ◌<◌}
use native.Mathlib.Decide.{dec_lt}
use native.Mathlib.Omega.{arith}
use lib.Dec.{T}
use Rattle.cltlb.specs.Truth.{AtomHolds}
use Rattle.cltlb.specs.Fits.{atom_fits}
use Rattle.cltlb.specs.declared.Atom.{Atom}
use Rattle.refusal.specs.declared.Refusal.TheVariants.{Closing}
use Rattle.refusal.specs.Lowest.{lowest_from}
use Rattle.refusal.proofs.Lowest.{from_none}
use Rattle.refusal.proofs.First.{refused_at_clear}
use Rattle.plan.specs.Layout.{start_rows, cycle_rows, rows}
use Rattle.plan.specs.Run.{run_of}
use Rattle.verdict.specs.Meaning.{VerdictMeans, is_changes}
use Rattle.verdict.specs.Rows.{atom_at, verdict_of}
use Rattle.verdict.proofs.Verdicts.{judged, atom_tells, same_truth, not_changes}
use Rattle.marks.specs.Parts.{steady_outcome}
use Rattle.verdict.proofs.Decisions.{T_true}
use Rattle.marks.proofs.Tests.{T-ext}
use Rattle.marks.proofs.Rows.{row_at, first_position, start_row, from_start, is_row}

-- What is proved of an atom: the test made at a position tells its truth F there, and the verdict on a cycle row is right on all
-- passes.
pub record Judged (plan : List ℕ) (x : Atom) (F : ℕ → Type 0) : Type 0 where
  pub tells : (t : ℕ) → (atom_at plan x t ≡ true) ↔ F t
  pub verdict : (row : ℕ) → start_rows plan ≤ row → row < rows plan
      → VerdictMeans (start_rows plan) (cycle_rows plan) row F (verdict_of plan x row)

-- It is so of an atom whose terms fit.
pub judged_atom : (plan : List ℕ) → 1 ≤ cycle_rows plan → (v : ℕ) (x : Atom) → atom_fits v x ≡ true → Judged plan x (AtomHolds (run_of plan) x)
unfolding rows
judged_atom plan h_c v x fits = record {
  tells = atom_tells plan v x fits;
  verdict = λ row low high. judged plan h_c row high v x fits;
}

module _ (plan : List ℕ) (h_c : 1 ≤ cycle_rows plan) (x : Atom) (i : ℕ) (F : ℕ → Type 0) (right : Judged plan x F) where
  -- The comparison at a position is what it is at the first position of the row.
  abbrev pub Steady : Type 0
  Steady = (t : ℕ) → atom_at plan x (row_at plan t) ≡ atom_at plan x t

  changes_nowhere : (steady_outcome plan x i ≡ unrefused) ↔ ((row : ℕ) → start_rows plan ≤ row → row < rows plan → is_changes (verdict_of plan x row) ≡ false)
  unfolding steady_outcome rows
  changes_nowhere =
      Iff.trans (refused_at_clear (Closing i) (lowest_from (λ row. is_changes (verdict_of plan x row)) (start_rows plan) (cycle_rows plan)))
      (from_none (λ row. is_changes (verdict_of plan x row)) (start_rows plan) (cycle_rows plan))

  test_iff : (s t : ℕ) → F s ↔ F t → atom_at plan x s ≡ atom_at plan x t
  test_iff s t h =
      T-ext (atom_at plan x s) (atom_at plan x t)
      (Iff.trans (told s) (Iff.trans h (Iff.symm (told t))))
    where
      told : (k : ℕ) → T (atom_at plan x k) ↔ F k
      told k = Iff.trans (T_true (atom_at plan x k)) (right.tells k)

  steady_rows : ((row : ℕ) → start_rows plan ≤ row → row < rows plan → is_changes (verdict_of plan x row) ≡ false) → Steady
  steady_rows none t = by_cases (dec_lt t (start_rows plan)) (λ l. ap (atom_at plan x) (start_row plan t l)) (λ l. later (omega arith))
    where
      row : ℕ
      row = row_at plan t

      later : start_rows plan ≤ t → atom_at plan x row ≡ atom_at plan x t
      later h =
          let low = from_start plan t h in
          let high = is_row plan h_c t in
          test_iff row t
          (same_truth (start_rows plan) (cycle_rows plan) row F (verdict_of plan x row) (right.verdict row low high) (none row low high)
          row t (first_position plan row high) refl)

  pub steady_iff : (steady_outcome plan x i ≡ unrefused) ↔ Steady
  steady_iff = Iff.trans changes_nowhere (steady_rows, back)
    where
      back : Steady → (row : ℕ) → start_rows plan ≤ row → row < rows plan → is_changes (verdict_of plan x row) ≡ false
      back steady row low high =
          not_changes (start_rows plan) (cycle_rows plan) row F (verdict_of plan x row) (right.verdict row low high)
          (λ s t d e h. (right.tells t).0 (sym (steady t) ∙ ap (atom_at plan x) (e ∙ sym d) ∙ steady s ∙ (right.tells s).1 h))
