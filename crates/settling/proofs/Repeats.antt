-- A comparison that changes on no row of the plan's cycle: its truths repeat from there on, and so do its marks. Assumes nothing.
use Prim.Native.Nat.{ℕ, zero, suc, ◌+◌, ◌*◌, ◌-◌, ◌/◌, ◌%◌, ◌≤◌, ◌<◌}
use native.Mathlib.Nat.{mod-lt, div-add-mod', add-mul-mod_self_right}
use native.Mathlib.Decide.{dec_lt}
use native.Mathlib.Omega.{arith}
use mathlib.Core.Path.{◌≡◌, sym, ap, ◌∙◌}
use mathlib.Core.Bool.{Bool, true, false, true≢false}
use mathlib.Core.List.{List}
use mathlib.Core.Logic.{◌↔◌, inl, by_cases}
use Rattle.refusal.specs.Lowest.{lowest_from}
use Rattle.refusal.proofs.Lowest.{not_so, from_none}
use Rattle.plan.specs.Layout.{cycle_rows}
use Rattle.plan.specs.declared.sizes.Sizes.{Sizes}
use Rattle.plan.specs.inner.Sizes.{Fitting}
use Rattle.verdict.specs.Meaning.{is_changes}
use Rattle.verdict.specs.Rows.{test_at, judge_cycle}
use Rattle.verdict.specs.declared.Comparison.{Comparison}
use Rattle.verdict.specs.declared.Verdict.{Verdict}
use Rattle.verdict.specs.declared.Verdict.TheVariants.{AlwaysTrue, AlwaysFalse, Changes}
use Rattle.verdict.specs.inner.Reach.{TermsFit}
use Rattle.verdict.proofs.Passes.{PassMeans}
use Rattle.verdict.proofs.Cycles.{ComparedAt, test_decides}
use Rattle.words.specs.inner.Words.{mark_at}
use Rattle.words.specs.inner.Written.{Marked}
use Rattle.words.proofs.Marking.{marked_others, marked_up}
use Rattle.settling.specs.inner.Scratch.{changing_from, is_none}
use Rattle.settling.proofs.Steadying.{none_is, means}

-- What does not change is on every pass what it is on the first.
same_truth : (v : Verdict) (f : ℕ → Bool) (F : ℕ → Type 0) → ((k : ℕ) → (f k ≡ true) ↔ F k) → PassMeans v F → is_changes v ≡ false → (k : ℕ) → f k ≡ f 0
unfolding PassMeans
same_truth AlwaysTrue f F e m h k = (e k).1 (m k) ∙ sym ((e 0).1 (m 0))
same_truth AlwaysFalse f F e m h k = not_so (f k) (λ t. m k ((e k).0 t)) ∙ sym (not_so (f 0) (λ t. m 0 ((e 0).0 t)))
same_truth Changes f F e m h k = absurd (true≢false h)

module _ (plan : List ℕ) {z : Sizes} (fit : Fitting plan z) (x : Comparison) (terms : TermsFit z x) (is : true ≡ is_none (changing_from plan x z.start z.cycle)) where
  truth_repeats : (k : ℕ) → test_at plan x (z.start + k % z.cycle) ≡ test_at plan x (z.start + k)
  unfolding changing_from
  truth_repeats k =
      let c = fit.c_is in
      let row : ℕ = z.start + k % z.cycle in
      let all = (from_none (λ t. is_changes (judge_cycle plan x 4 t)) z.start z.cycle).0 (none_is (lowest_from (λ t. is_changes (judge_cycle plan x 4 t)) z.start z.cycle) (sym is)) in
      let one = same_truth (judge_cycle plan x 4 row) (λ n. test_at plan x (row + n * cycle_rows plan)) (λ n. ComparedAt plan x (row + n * cycle_rows plan))
      (λ n. test_decides plan x (row + n * cycle_rows plan)) (means plan fit x terms row (omega arith)) (all row (omega arith) (omega (arith, mod-lt k fit.a_cycle))) (k / z.cycle) in
      let first : row + 0 * cycle_rows plan ≡ row = omega arith in
      let far : k / z.cycle * cycle_rows plan ≡ k / z.cycle * z.cycle = ap (λ (m : ℕ). k / z.cycle * m) c in
      let there : row + k / z.cycle * cycle_rows plan ≡ z.start + k = omega (arith, div-add-mod' k z.cycle) in
      sym (ap (test_at plan x) first) ∙ sym one ∙ ap (test_at plan x) there

  -- So it has a cycle later the truth that it has.
  truth_again : (t : ℕ) → z.start + z.cycle ≤ t → test_at plan x (t - z.cycle) ≡ test_at plan x t
  truth_again t h =
      let here : z.start + (t - z.start) ≡ t = omega arith in
      let back : z.start + (t - z.cycle - z.start) ≡ t - z.cycle = omega arith in
      let on : t - z.cycle - z.start + 1 * z.cycle ≡ t - z.start = omega arith in
      ap (test_at plan x) (sym back)
      ∙ sym (truth_repeats (t - z.cycle - z.start))
      ∙ ap (λ (k : ℕ). test_at plan x (z.start + k)) (sym (add-mul-mod_self_right (t - z.cycle - z.start) 1 z.cycle) ∙ ap (λ (k : ℕ). k % z.cycle) on)
      ∙ truth_repeats (t - z.start)
      ∙ ap (test_at plan x) here

  -- Its marks, where they are tested on the plan's rows and repeated behind them.
  module _ {old mid new : List ℕ} {i count : ℕ} (tested : Marked old mid i 0 (z.start + z.cycle) (test_at plan x))
      (repeated : Marked mid new i (z.start + z.cycle) count (λ row. mark_at new i (row - z.cycle))) where
    below : (n row : ℕ) → row < n → row < count → mark_at new i row ≡ test_at plan x row
    below zero row l q = absurd (omega arith)
    below (suc n) row l q =
        let some_cycle = fit.a_cycle in
        by_cases (dec_lt row (z.start + z.cycle))
        (λ s. marked_others repeated i row (inl s) ∙ tested.own row (omega arith) s)
        (λ s. repeated.own row (omega arith) q ∙ below n (row - z.cycle) (omega arith) (omega arith) ∙ truth_again row (omega arith))

    pub marks_repeat : z.start + z.cycle ≤ count → Marked old new i 0 count (test_at plan x)
    marks_repeat h =
        let some_cycle = fit.a_cycle in
        marked_up (omega arith) h tested repeated (λ row p q. below row (row - z.cycle) (omega arith) (omega arith) ∙ truth_again row p)
