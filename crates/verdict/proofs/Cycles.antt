-- A comparison on a cycle row: from a pass on from which neither term reaches before the cycle, its truth is that of two
-- straight lines under their tops, and the verdict is right on every pass. Assumes nothing.
use Prim.Native.Nat.{ℕ, suc, ◌+◌, ◌*◌, ◌-◌, ◌≤◌}
use native.Mathlib.Nat.{add-zero}
use native.Mathlib.Omega.{arith}
use mathlib.Core.Path.{◌≡◌, sym, ap, ◌∙◌, subst}
use mathlib.Core.Bool.{true}
use mathlib.Core.List.{List}
use mathlib.Core.Logic.Iff
use mathlib.Core.Logic.{◌↔◌}
use lib.IntN.{ℤ, pos, negsuc, ◌+ℤ◌, ◌*ℤ◌, +ℤ_idr, *ℤ-zero}
use Rattle.cltlb.specs.Run.{number, under}
use Rattle.cltlb.specs.Truth.{value_at}
use Rattle.cltlb.specs.declared.Term.{Term}
use Rattle.cltlb.specs.declared.Term.TheVariants.{Constant, Reading}
use Rattle.cltlb.specs.Fits.{term_fits}
use Rattle.cltlb.proofs.Fits.{reading_fits, shift_in}
use Rattle.plan.specs.Layout.{start_rows, cycle_rows}
use Rattle.plan.specs.Run.{run_of}
use Rattle.fields.proofs.Differences.{sub_pos}
use Rattle.plan.proofs.Lines.{run_later}
use Rattle.plan.proofs.Pinned.{no_top}
use Rattle.verdict.specs.Lines.{on_pass}
use Rattle.verdict.specs.Rows.{channel_line, term_line, term_top, test_at, judge_from, judge_cycle}
use Rattle.verdict.specs.inner.Reach.{back, reach}
use Rattle.verdict.specs.declared.Comparison.{Comparison}
use Rattle.verdict.proofs.Passes.{PassMeans, means_iff, means_one, first_means}
use Rattle.verdict.proofs.Relations.{SeenRelates, tested_decides}
use Rattle.verdict.proofs.UnderTops.{judged_under}

-- No shift reaches back more than four positions.
pub reach_le : (v : ℕ) (x : Term) → term_fits v x ≡ true → reach x ≤ 4
unfolding reach back
reach_le v (Constant z) f = omega arith
reach_le v (Reading c (pos n)) f = omega arith
reach_le v (Reading c (negsuc n)) f = shift_in (negsuc n) (reading_fits v c (negsuc n) f).1

-- the position that a term is read at, and those later on
pub read_at : (P t c : ℕ) (s : ℤ) → P + reach (Reading c s) ≤ t → (u : ℕ) × (P ≤ u) × ((j : ℕ) → pos (t + j) +ℤ s ≡ pos (u + j))
unfolding reach back
read_at P t c (pos n) h = (t + n, omega arith, λ j. ap pos (omega arith))
read_at P t c (negsuc n) h = (t - suc n, omega arith, λ j. sub_pos (t + j) (suc n) (omega arith) ∙ ap pos (omega arith))

module _ (plan : List ℕ) (h_c : 1 ≤ cycle_rows plan) where
  -- A term that is not read before the cycle is a straight line under its top from there on.
  pub value_later : (x : Term) (t k : ℕ) → start_rows plan + reach x ≤ t
      → value_at (run_of plan) x (t + k * cycle_rows plan) ≡ under (term_top plan x) (on_pass (term_line plan x t) k)
  unfolding value_at term_line channel_line on_pass
  value_later (Constant z) t k h = sym (no_top (z +ℤ pos k *ℤ pos 0) ∙ ap number (ap (λ y. z +ℤ y) (*ℤ-zero (pos k)) ∙ +ℤ_idr z))
  value_later (Reading c s) t k h =
      let u = read_at (start_rows plan) t c s h in
      let e : pos t +ℤ s ≡ pos u.0 = simp (add-zero t, add-zero u.0) at (u.2 0) in
      rw (u.2 (k * cycle_rows plan), e) (run_later plan h_c c u.0 k u.1)

module _ (plan : List ℕ) (x : Comparison) where
  -- the published truth of the comparison at a position
  abbrev pub ComparedAt : ℕ → Type 0
  ComparedAt t = SeenRelates x.relation (value_at (run_of plan) x.left t) (value_at (run_of plan) x.right t)

  pub test_decides : (t : ℕ) → (test_at plan x t ≡ true) ↔ ComparedAt t
  unfolding test_at
  test_decides t = tested_decides x.relation (value_at (run_of plan) x.left t) (value_at (run_of plan) x.right t)

  -- neither term, at a position, is read before the cycle
  pub record Inside (t : ℕ) : Type 0 where
    pub left : start_rows plan + reach x.left ≤ t
    pub right : start_rows plan + reach x.right ≤ t

  -- how the lines of the two terms from position t on, under their tops, compare on the k-th pass after it
  abbrev OnLines : ℕ → ℕ → Type 0
  OnLines t k =
      SeenRelates x.relation
      (under (term_top plan x.left) (on_pass (term_line plan x.left t) k)) (under (term_top plan x.right) (on_pass (term_line plan x.right t) k))

  module _ (h_c : 1 ≤ cycle_rows plan) where
    -- From such a position on, the truth on each pass is that of two straight lines under their tops.
    straight : (t k : ℕ) → Inside t → OnLines t k ↔ ComparedAt (t + k * cycle_rows plan)
    straight t k h = rw (value_later plan h_c x.left t k h.left, value_later plan h_c x.right t k h.right) Iff.rfl

    module _ (row : ℕ) where
      -- The verdict is right on every pass, for every n from which on the terms are not read before the cycle.
      pub cycle_means : (n : ℕ) → Inside (row + n * cycle_rows plan) → PassMeans (judge_cycle plan x n row) (λ k. ComparedAt (row + k * cycle_rows plan))
      unfolding judge_cycle
      cycle_means n h =
          first_means _ _ (λ k. test_decides (row + k * cycle_rows plan)) n (judge_from plan x t)
          (means_iff _ _ _ later
          (judged_under x.relation (term_top plan x.left) (term_line plan x.left t) (term_top plan x.right) (term_line plan x.right t)))
        where
          t : ℕ
          t = row + n * cycle_rows plan

          later : (k : ℕ) → OnLines t k ↔ ComparedAt (row + (k + n) * cycle_rows plan)
          later k = subst (λ (s : ℕ). OnLines t k ↔ ComparedAt s) passes (straight t k h)
            where
              passes : t + k * cycle_rows plan ≡ row + (k + n) * cycle_rows plan
              passes = omega arith

      -- So each such n gives the same verdict.
      pub cycle_same : (m n : ℕ) → Inside (row + m * cycle_rows plan) → Inside (row + n * cycle_rows plan) → judge_cycle plan x m row ≡ judge_cycle plan x n row
      cycle_same m n h l = means_one _ _ _ (cycle_means m h) (cycle_means n l)

  -- On a cycle row pass 4 is such a pass, since no shift reaches back more than four positions.
  pub inside_4 : (v row : ℕ) → term_fits v x.left ≡ true → term_fits v x.right ≡ true → 1 ≤ cycle_rows plan → start_rows plan ≤ row
      → Inside (row + 4 * cycle_rows plan)
  inside_4 v row fx fy h_c h = record { left = omega (arith, reach_le v x.left fx); right = omega (arith, reach_le v x.right fy) }
