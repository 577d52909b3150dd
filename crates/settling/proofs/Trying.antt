-- One part tried on the layout of k passes, whose rows are the first positions of the plan's run: it closes there, and has the marks,
-- as on the plan that would be written. Assumes nothing.
use Prim.Native.Nat.{ℕ, ◌+◌, ◌*◌, ◌≤◌, ◌<◌}
use native.Mathlib.Omega.{arith}
use mathlib.Core.Path.{◌≡◌, refl, sym, ap, ap₂, ◌∙◌, subst, subst⁻¹}
use mathlib.Core.Bool.{Bool, true, false, not, false≢true}
use mathlib.Core.List.{List}
use mathlib.Core.Option.{Option, none, some}
use mathlib.Core.Logic.Iff
use mathlib.Core.Logic.{◌↔◌}
use lib.IntN.{ℤ}
use borrow.Author.Tests.{le-ltb, not-true, not-false}
use Rattle.fields.specs.inner.Ranges.{Bytes}
use Rattle.cltlb.specs.Fits.{atom_fits}
use Rattle.cltlb.specs.declared.Atom.{Atom}
use Rattle.cltlb.specs.declared.Operator.{Operator}
use Rattle.cltlb.specs.declared.View.{View}
use Rattle.cltlb.specs.declared.View.TheVariants as view
use Rattle.cltlb.proofs.SameRun.{value_same}
use Rattle.refusal.specs.First.{unless, refused_at}
use Rattle.refusal.specs.declared.Refusal.{Refusal}
use Rattle.refusal.specs.declared.Refusal.TheVariants.{Closing}
use Rattle.refusal.specs.Lowest.{lowest_from}
use Rattle.refusal.proofs.Lowest.{from_ext}
use Rattle.plan.specs.Layout.{start_rows, cycle_rows, rows}
use Rattle.plan.specs.Run.{run_of}
use Rattle.plan.specs.declared.sizes.Sizes.{Sizes}
use Rattle.plan.specs.inner.Sizes.{all_rows, Fitting}
use Rattle.plan.proofs.Fits.{rows_are}
use Rattle.verdict.specs.Meaning.{is_changes}
use Rattle.verdict.specs.Comparisons.{tested, comparison_of}
use Rattle.verdict.specs.Rows.{test_at, judge_cycle, judge_row, atom_at, verdict_of}
use Rattle.verdict.specs.declared.Comparison.{Comparison}
use Rattle.verdict.specs.inner.Reach.{TermsFit}
use Rattle.verdict.proofs.Passes.{means_iff, means_one}
use Rattle.verdict.proofs.Cycles.{ComparedAt, test_decides, cycle_means, inside_4}
use Rattle.verdict.proofs.Values.{atom_fit}
use Rattle.words.specs.inner.Words.{most_rows, mark_at}
use Rattle.words.specs.inner.Written.{Marked}
use Rattle.marks.specs.Parts.{closes, steady_outcome, closing_outcome}
use Rattle.marks.proofs.PartsChecked.{at_sizes, own_cycle}
use Rattle.labelling.specs.Labels.{operator_label, label_of}
use Rattle.laid_out.specs.LaidOut.{laid_out, can_be_laid}
use Rattle.laid_out.specs.inner.LaidSizes.{laid_sizes}
use Rattle.laid_out.proofs.LaidRuns.{laid_few, laid_cycle, laid_fitting, laid_run}
use Rattle.settling.specs.Settle.{is_clear}
use Rattle.settling.specs.inner.Scratch.{changing_from, is_none, OperatorTried, PartTried}

-- ---- what refuses nothing

none_clear : (r : ℕ → Refusal) (o : Option ℕ) → is_none o ≡ is_clear (refused_at r o)
unfolding refused_at
none_clear r none = refl
none_clear r (some k) = refl

met_clear : (b : Bool) (r : Refusal) → b ≡ is_clear (unless b r)
unfolding unless
met_clear true r = refl
met_clear false r = refl

-- what is known of a part by its view
pub tried_view : (layout : List ℕ) {old new : List ℕ} {i : ℕ} {p q : View} {b : Bool} → p ≡ q → PartTried layout old new i q b → PartTried layout old new i p b
tried_view layout {old} {new} {i} {b = b} e t = subst⁻¹ (λ (p : View). PartTried layout old new i p b) e t

module _ (plan : List ℕ) {z : Sizes} (fit : Fitting plan z) (k : ℕ) (can : can_be_laid plan k ≡ true) where
  abbrev layout : List ℕ
  layout = laid_out plan k

  -- the first row of the layout's cycle
  abbrev S : ℕ
  S = z.start + k * z.cycle

  -- The rows of the layout are few, and its cycle begins in the plan's cycle.
  pub laid_rows : (S + z.cycle ≤ most_rows) × (S ≤ most_rows) × (z.start ≤ S)
  laid_rows = let few = (laid_few plan fit k can).1 in (omega arith, omega arith, omega arith)

  same_cycle : cycle_rows (laid_out plan k) ≡ cycle_rows plan
  same_cycle = laid_cycle plan fit k can

  module _ (bytes : Bytes plan) where
    laid : Fitting (laid_out plan k) (laid_sizes z k)
    laid = laid_fitting plan fit k can bytes

    seen_same : (c : ℕ) → c < z.channels → (t : ℤ) → run_of (laid_out plan k) c t ≡ run_of plan c t
    seen_same c l t = laid_run plan fit k can bytes c (subst⁻¹ (λ (v : ℕ). c < v) fit.v_is l) t

    -- ---- comparisons

    module _ (a : Atom) (fits : atom_fits z.channels a ≡ true) {x : Comparison} (is : x ≡ comparison_of a) where
      terms : TermsFit z x
      terms = atom_fit z a fits is

      -- A comparison has the same truth at a position on both plans,
      test_same : (t : ℕ) → test_at (laid_out plan k) x t ≡ test_at plan x t
      unfolding test_at
      test_same t =
          ap₂ (tested x.relation)
          (value_same (run_of (laid_out plan k)) (run_of plan) z.channels seen_same x.left terms.0 t)
          (value_same (run_of (laid_out plan k)) (run_of plan) z.channels seen_same x.right terms.1 t)

      compared_same : (t : ℕ) → ComparedAt (laid_out plan k) x t ↔ ComparedAt plan x t
      compared_same t =
          Iff.trans (Iff.symm (test_decides (laid_out plan k) x t))
          (Iff.trans (subst (λ (b : Bool). (test_at (laid_out plan k) x t ≡ true) ↔ (b ≡ true)) (test_same t) Iff.rfl) (test_decides plan x t))

      -- and the same verdict on the passes from a position of the layout's cycle on.
      verdict_same : (t : ℕ) → S ≤ t → judge_cycle plan x 4 t ≡ judge_cycle (laid_out plan k) x 4 t
      verdict_same t h =
          means_one _ _ (λ j. ComparedAt plan x (t + j * cycle_rows plan))
          (cycle_means plan x (own_cycle fit) t 4 (inside_4 plan x z.channels t terms.0 terms.1 (own_cycle fit) (omega (arith, fit.p_is))))
          (means_iff _ (λ j. ComparedAt (laid_out plan k) x (t + j * cycle_rows (laid_out plan k))) (λ j. ComparedAt plan x (t + j * cycle_rows plan))
          (λ j. subst (λ (c : ℕ). ComparedAt (laid_out plan k) x (t + j * cycle_rows (laid_out plan k)) ↔ ComparedAt plan x (t + j * c)) same_cycle
          (compared_same (t + j * cycle_rows (laid_out plan k))))
          (cycle_means (laid_out plan k) x (own_cycle laid) t 4
          (inside_4 (laid_out plan k) x z.channels t terms.0 terms.1 (own_cycle laid) (omega (arith, laid.p_is)))))

      on_row : (t : ℕ) → S ≤ t → judge_cycle plan x 4 t ≡ verdict_of (laid_out plan k) a t
      unfolding verdict_of judge_row
      on_row t h =
          verdict_same t h
          ∙ ap (λ (y : Comparison). judge_cycle (laid_out plan k) y 4 t) is
          ∙ sym (simp (le-ltb t (start_rows (laid_out plan k)) (omega (arith, laid.p_is))))

      -- So it changes on no cycle row of the layout where it changes on none of those positions.
      pub steady_as : (i : ℕ) (mark : ℕ → ℕ → Bool) → is_none (changing_from plan x S z.cycle) ≡ is_clear (closing_outcome (laid_out plan k) mark (view.Atom a) i)
      unfolding changing_from closing_outcome steady_outcome
      steady_as i mark =
          ap is_none (from_ext (λ t. is_changes (judge_cycle plan x 4 t)) (λ t. is_changes (verdict_of (laid_out plan k) a t)) S z.cycle (λ t low _. ap is_changes (on_row t low)))
          ∙ at_sizes laid (λ p c. is_none (lowest_from (λ t. is_changes (verdict_of (laid_out plan k) a t)) p c)
          ≡ is_clear (refused_at (Closing i) (lowest_from (λ t. is_changes (verdict_of (laid_out plan k) a t)) (start_rows (laid_out plan k)) (cycle_rows (laid_out plan k)))))
          (none_clear (Closing i) _)

      module _ {s c : ℕ} (at_s : s ≡ S) (at_c : c ≡ z.cycle) {b : Bool} (e : b ≡ is_none (changing_from plan x s z.cycle)) (i : ℕ) where
        closes_as : (old : List ℕ) → b ≡ is_clear (closing_outcome (laid_out plan k) (mark_at old) (view.Atom a) i)
        closes_as old = e ∙ ap (λ (m : ℕ). is_none (changing_from plan x m z.cycle)) at_s ∙ steady_as i (mark_at old)

        -- It changes: nothing is written.
        pub atom_open : not b ≡ true → {old : List ℕ} → PartTried (laid_out plan k) old old i (view.Atom a) false
        atom_open h {old} = record {
          outcome = sym (not-true b h) ∙ closes_as old;
          long = refl;
          lower = λ a l row. refl;
          made = λ t. absurd (false≢true t);
        }

        -- It does not: its marks are written.
        pub atom_closed : not b ≡ false → {old new : List ℕ} → Marked old new i 0 (s + c) (test_at plan x) → PartTried (laid_out plan k) old new i (view.Atom a) true
        unfolding label_of atom_at
        atom_closed h {old} {new} done = record {
          outcome = sym (not-false b h) ∙ closes_as old;
          long = done.long;
          lower = done.lower;
          made = λ _ row l. done.own row (omega arith) (subst⁻¹ (λ (m : ℕ). row < m) whole l)
              ∙ sym (test_same row)
              ∙ ap (λ (y : Comparison). test_at (laid_out plan k) y row) is;
        }
          where
            whole : s + c ≡ rows (laid_out plan k)
            whole = ap₂ (λ (m n : ℕ). m + n) at_s at_c ∙ sym (rows_are laid)

  -- ---- operators

  module _ (bytes : Bytes plan) {y : Sizes} (is : y ≡ laid_sizes z k) where
    -- There is room for their rows.
    pub operator_room : (1 ≤ y.cycle) × (all_rows y ≤ most_rows)
    operator_room = subst⁻¹ (λ (q : Sizes). (1 ≤ q.cycle) × (all_rows q ≤ most_rows)) is ((laid bytes).a_cycle, (laid bytes).few_rows)

    -- One is marked, and closes or not.
    pub operator_tried : (i : ℕ) (o : Operator) {old new : List ℕ} {b : Bool} → OperatorTried y.start y.cycle old new i o b
        → PartTried (laid_out plan k) old new i (view.Operator o) b
    unfolding closing_outcome label_of
    operator_tried i o {old} {new} {b} tried = record {
      outcome = done.outcome
          ∙ at_sizes (laid bytes) (λ p c. closes p c (mark_at old) o ≡ closes (start_rows (laid_out plan k)) (cycle_rows (laid_out plan k)) (mark_at old) o) refl
          ∙ met_clear (closes (start_rows (laid_out plan k)) (cycle_rows (laid_out plan k)) (mark_at old) o) (Closing i (start_rows (laid_out plan k)));
      long = done.long;
      lower = done.lower;
      made = λ e row l. done.made e row (subst (λ (m : ℕ). row < m) (rows_are (laid bytes)) l)
          ∙ at_sizes (laid bytes) (λ p c. operator_label p c (mark_at old) o row ≡ operator_label (start_rows (laid_out plan k)) (cycle_rows (laid_out plan k)) (mark_at old) o row) refl;
    }
      where
        done : OperatorTried S z.cycle old new i o b
        done = subst (λ (q : Sizes). OperatorTried q.start q.cycle old new i o b) is tried
