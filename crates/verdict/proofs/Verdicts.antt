-- The verdict on a comparison on a row is right: on every pass, that is, at every position that lies on the row; and it is not
-- "changes" exactly where the truth at these is one. Assumes nothing.
use Prim.Native.Nat.{ℕ, ◌+◌, ◌*◌, ◌≤◌, ◌<◌}
use native.Mathlib.Decide.{dec_lt}
use native.Mathlib.Omega.{arith}
use mathlib.Core.Path.{◌≡◌, refl, sym, subst}
use mathlib.Core.Bool.{Bool, true, false, cond, false≢true, true≢false}
use mathlib.Core.List.{List}
use mathlib.Core.Logic.Iff
use mathlib.Core.Logic.{◌↔◌, by_cases}
use lib.IntN.{ℤ, pos}
use borrow.Author.Tests.{lt-ltb, le-ltb}
use Rattle.cltlb.specs.Truth.{value_at, Compared, Within, AtomHolds}
use Rattle.cltlb.specs.Fits.{term_fits, atom_fits}
use Rattle.cltlb.specs.declared.Term.TheVariants.{Constant}
use Rattle.cltlb.specs.declared.Atom.{Atom}
use Rattle.cltlb.specs.declared.Atom.TheVariants.{Less, Equal, Window, Pinned}
use Rattle.cltlb.proofs.Fits.{less_fits, equal_fits, window_fits_lem, pinned_fits, Ends, ends_fit}
use Rattle.plan.specs.Layout.{start_rows, cycle_rows}
use Rattle.plan.specs.Positions.{row_of, pass_of}
use Rattle.plan.specs.Run.{run_of}
use Rattle.plan.proofs.Rows.{row_start, row_ge, row_again, row_split}
use Rattle.verdict.specs.Meaning.{VerdictMeans, is_changes}
use Rattle.verdict.specs.Comparisons.{comparison, comparison_of}
use Rattle.verdict.specs.Weeks.{minutes_after}
use Rattle.verdict.specs.Rows.{test_at, judge_row, atom_at, verdict_of}
use Rattle.verdict.specs.inner.Reach.{reach, AsksLeft}
use Rattle.verdict.specs.declared.Comparison.{Comparison}
use Rattle.verdict.specs.declared.Relation.TheVariants.{Below, Same}
use Rattle.verdict.specs.declared.Verdict.{Verdict}
use Rattle.verdict.specs.declared.Verdict.TheVariants.{AlwaysTrue, AlwaysFalse, Changes}
use Rattle.verdict.proofs.Passes.{PassMeans, means_one}
use Rattle.verdict.proofs.Minutes.{window_within}
use Rattle.verdict.proofs.Relations.{same_number}
use Rattle.verdict.proofs.Cycles.{ComparedAt, test_decides, cycle_means, inside_4}

-- A verdict on the passes of a row is one on the row, where `at` gives all positions that lie on it.
pub row_means : (P C row : ℕ) (at : ℕ → ℕ) → ((k : ℕ) → row_of P C (at k) ≡ row) → ((t : ℕ) → row_of P C t ≡ row → (k : ℕ) × (at k ≡ t))
    → (F : ℕ → Type 0) (v : Verdict) → PassMeans v (λ k. F (at k)) → VerdictMeans P C row F v
unfolding PassMeans
row_means P C row at on all F v m = record {
  always_true = (
    λ e t h. let a = all t h in subst F a.1 (subst (λ w. PassMeans w (λ k. F (at k))) e m a.0),
    λ h. means_one v AlwaysTrue _ m (λ k. h (at k) (on k)),
  );
  always_false = (
    λ e t h l. let a = all t h in subst (λ w. PassMeans w (λ k. F (at k))) e m a.0 (subst F (sym a.1) l),
    λ h. means_one v AlwaysFalse _ m (λ k. h (at k) (on k)),
  );
  changes = (
    λ e. let c = subst (λ w. PassMeans w (λ k. F (at k))) e m in ((at c.0.0, on c.0.0, c.0.1), (at c.1.0, on c.1.0, c.1.1)),
    λ h. let a = all h.0.0 h.0.1 in
        let b = all h.1.0 h.1.1 in
        means_one v Changes _ m ((a.0, subst F (sym a.1) h.0.2), (b.0, λ l. h.1.2 (subst F b.1 l))),
  );
}

module _ (P C : ℕ) (h_c : 1 ≤ C) (row : ℕ) where
  -- The only position on a start row is the row itself.
  pub on_start : row < P → (t : ℕ) → row_of P C t ≡ row → row ≡ t
  on_start h t e =
      by_cases (dec_lt t P)
      (λ l. omega (arith, row_start P C t (omega arith)))
      (λ l. absurd (omega (arith, row_ge P C t (omega arith))))

  -- A cycle row lies at its first position and a whole number of passes later.
  pub on_cycle : P ≤ row → (t : ℕ) → row_of P C t ≡ row → row + pass_of P C t * C ≡ t
  on_cycle h t e =
      by_cases (dec_lt t P)
      (λ l. absurd (omega (arith, row_start P C t (omega arith))))
      (λ l. omega (arith, row_split P C h_c t (omega arith)))

-- A verdict on a statement is one on an equivalent statement.
verdict_iff : {P C row : ℕ} {F G : ℕ → Type 0} {v : Verdict} → ((t : ℕ) → F t ↔ G t) → VerdictMeans P C row F v → VerdictMeans P C row G v
verdict_iff e m = record {
  always_true = (λ h t l. (e t).0 (m.always_true.0 h t l), λ h. m.always_true.1 (λ t l. (e t).1 (h t l)));
  always_false = (λ h t l g. m.always_false.0 h t l ((e t).1 g), λ h. m.always_false.1 (λ t l f. h t l ((e t).0 f)));
  changes = (
    λ h. let c = m.changes.0 h in ((c.0.0, c.0.1, (e c.0.0).0 c.0.2), (c.1.0, c.1.1, λ g. c.1.2 ((e c.1.0).1 g))),
    λ c. m.changes.1 ((c.0.0, c.0.1, (e c.0.0).1 c.0.2), (c.1.0, c.1.1, λ f. c.1.2 ((e c.1.0).0 f))),
  );
}

-- A constant fits any number of channels.
constant_fits : (v : ℕ) (z : ℤ) → term_fits v (Constant z) ≡ true
unfolding term_fits
constant_fits v z = refl

-- A window is its comparison.
window_holds : (plan : List ℕ) (c : ℕ) (s : ℤ) (from to : ℕ) → Ends from to
    → (t : ℕ) → ComparedAt plan (comparison_of (Window c s from to)) t ↔ AtomHolds (run_of plan) (Window c s from to) t
unfolding AtomHolds Within Compared value_at
window_holds plan c s from to w t = (
  λ h. (h.0, h.2, (window_within from to w h.0).0 (subst (λ (b : ℤ). minutes_after h.0 b < minutes_after (pos to) (pos from)) (sym (same_number h.3)) h.4)),
  λ h. (h.0, pos from, h.1, refl, (window_within from to w h.0).1 h.2),
)

module _ (plan : List ℕ) (h_c : 1 ≤ cycle_rows plan) (row : ℕ) (hr : row < start_rows plan + cycle_rows plan) (v : ℕ) where
  module _ (x : Comparison) (fx : term_fits v x.left ≡ true) (fy : term_fits v x.right ≡ true) where
    start_means : (b : Bool) → (b ≡ true) ↔ ComparedAt plan x row → PassMeans (cond b AlwaysTrue AlwaysFalse) (λ k. ComparedAt plan x row)
    unfolding PassMeans
    start_means true e = λ k. e.0 refl
    start_means false e = λ k h. false≢true (e.1 h)

    row_judged : VerdictMeans (start_rows plan) (cycle_rows plan) row (ComparedAt plan x) (judge_row plan x row)
    unfolding judge_row
    row_judged =
        by_cases (dec_lt row (start_rows plan))
        (λ h. rw (lt-ltb row (start_rows plan) h)
        (row_means (start_rows plan) (cycle_rows plan) row (λ k. row) (λ k. row_start (start_rows plan) (cycle_rows plan) row hr)
        (λ t e. (0, on_start (start_rows plan) (cycle_rows plan) h_c row h t e)) _ _
        (start_means (test_at plan x row) (test_decides plan x row))))
        (λ h. rw (le-ltb row (start_rows plan) (omega arith))
        (row_means (start_rows plan) (cycle_rows plan) row (λ k. row + k * cycle_rows plan)
        (λ k. row_again (start_rows plan) (cycle_rows plan) h_c row k (omega arith) hr)
        (λ t e. (pass_of (start_rows plan) (cycle_rows plan) t, on_cycle (start_rows plan) (cycle_rows plan) h_c row (omega arith) t e)) _ _
        (cycle_means plan x h_c row 4 (inside_4 plan x v row fx fy h_c (omega arith)))))

  -- The verdict on an atom says what its truth is at every position on the row.
  pub judged : (x : Atom) → atom_fits v x ≡ true → VerdictMeans (start_rows plan) (cycle_rows plan) row (AtomHolds (run_of plan) x) (verdict_of plan x row)
  unfolding AtomHolds verdict_of
  judged (Less x y) f = let fits = less_fits v x y f in row_judged (comparison Below x y) fits.0 fits.1
  judged (Equal x y) f = let fits = equal_fits v x y f in row_judged (comparison Same x y) fits.0 fits.1
  judged (Window c s from to) f =
      let fits = window_fits_lem v c s from to f in
      verdict_iff (window_holds plan c s from to (ends_fit from to fits.1))
      (row_judged (comparison_of (Window c s from to)) fits.0 (constant_fits v (pos from)))
  judged (Pinned c s) f = row_judged (comparison_of (Pinned c s)) (pinned_fits v c s f) (constant_fits v (pos 0))

-- The terms of an atom that fits.
pub atom_terms : (v : ℕ) (x : Atom) → atom_fits v x ≡ true → (term_fits v (comparison_of x).left ≡ true) × (term_fits v (comparison_of x).right ≡ true)
atom_terms v (Less x y) f = less_fits v x y f
atom_terms v (Equal x y) f = equal_fits v x y f
atom_terms v (Window c s from to) f = ((window_fits_lem v c s from to f).0, constant_fits v (pos from))
atom_terms v (Pinned c s) f = (pinned_fits v c s f, constant_fits v (pos 0))

-- Of an atom that asks nothing of a right term that term is a constant.
pub asks_left : (x : Atom) → AsksLeft (comparison_of x)
unfolding reach
asks_left (Less x y) e = let z : ◌≡◌ {A = ℕ} 0 1 = cc in absurd (omega arith)
asks_left (Equal x y) e = let z : ◌≡◌ {A = ℕ} 0 1 = cc in absurd (omega arith)
asks_left (Window c s from to) e = refl
asks_left (Pinned c s) e = refl

-- The test of an atom that fits tells, at a position, its truth there.
pub atom_tells : (plan : List ℕ) (v : ℕ) (x : Atom) → atom_fits v x ≡ true → (t : ℕ) → (atom_at plan x t ≡ true) ↔ AtomHolds (run_of plan) x t
unfolding atom_at AtomHolds
atom_tells plan v (Less x y) f t = test_decides plan (comparison Below x y) t
atom_tells plan v (Equal x y) f t = test_decides plan (comparison Same x y) t
atom_tells plan v (Window c s from to) f t =
    Iff.trans (test_decides plan (comparison_of (Window c s from to)) t) (window_holds plan c s from to (ends_fit from to (window_fits_lem v c s from to f).1) t)
atom_tells plan v (Pinned c s) f t = test_decides plan (comparison_of (Pinned c s)) t

pub is_changes_lem : (v : Verdict) → is_changes v ≡ true → v ≡ Changes
is_changes_lem AlwaysTrue e = absurd (true≢false (sym e))
is_changes_lem AlwaysFalse e = absurd (true≢false (sym e))
is_changes_lem Changes e = refl

-- Where a verdict is not "changes", the truth at two positions of the row is one.
pub same_truth : (P C row : ℕ) (F : ℕ → Type 0) (v : Verdict) → VerdictMeans P C row F v → is_changes v ≡ false
    → (s t : ℕ) → row_of P C s ≡ row → row_of P C t ≡ row → F s ↔ F t
same_truth P C row F AlwaysTrue w e s t d k = let all = w.always_true.0 refl in (λ _. all t k, λ _. all s d)
same_truth P C row F AlwaysFalse w e s t d k = let none = w.always_false.0 refl in (λ h. absurd (none s d h), λ h. absurd (none t k h))
same_truth P C row F Changes w e s t d k = absurd (true≢false e)

-- And where it is one, the verdict is not "changes".
pub not_changes : (P C row : ℕ) (F : ℕ → Type 0) (v : Verdict) → VerdictMeans P C row F v
    → ((s t : ℕ) → row_of P C s ≡ row → row_of P C t ≡ row → F s → F t) → is_changes v ≡ false
not_changes P C row F AlwaysTrue w same = refl
not_changes P C row F AlwaysFalse w same = refl
not_changes P C row F Changes w same =
    let p = w.changes.0 refl in absurd (p.1.2 (same p.0.0 p.1.0 p.0.1 p.1.1 p.0.2))
