-- Refusals 9 to 11 of one part by the tests that the code makes, with the sizes that it has read. Assumes nothing.
use Prim.Native.Nat.{ℕ, ◌+◌, ◌≤◌, ◌<◌}
use native.Mathlib.Omega.{arith}
use mathlib.Core.Path.{◌≡◌, refl, sym, ap, ap₂, ◌∙◌, subst, subst₂, subst⁻¹}
use mathlib.Core.List.{List}
use mathlib.Core.Bool.{Bool, true, false, not, beq, false≢true, and-eq-true_iff}
use Rattle.cltlb.specs.Truth.{AtomHolds}
use Rattle.cltlb.specs.Fits.{atom_fits, names_lower, view_fits}
use Rattle.cltlb.specs.declared.Atom.{Atom}
use Rattle.cltlb.specs.declared.Operator.{Operator}
use Rattle.cltlb.specs.declared.View.{View}
use Rattle.cltlb.specs.declared.View.TheVariants as view
use Rattle.cltlb.proofs.Fits.{atom_fits_lem, operator_fits}
use Rattle.refusal.specs.Lowest.{lowest_from}
use Rattle.refusal.specs.First.{unless, refused_at}
use Rattle.refusal.specs.Outcome.{Outcome, unrefused}
use Rattle.refusal.specs.declared.Refusal.TheVariants.{Closing, Witness}
use Rattle.refusal.proofs.Lowest.{not_so, from_none}
use Rattle.refusal.proofs.First.{refused_at_clear}
use Rattle.refusal.proofs.Search.{search_from}
use Rattle.plan.specs.Layout.{start_rows, cycle_rows, rows}
use Rattle.plan.specs.Positions.{row_of}
use Rattle.plan.specs.declared.sizes.Sizes.{Sizes}
use Rattle.plan.specs.inner.Sizes.{all_rows, Fitting}
use Rattle.plan.specs.Run.{run_of}
use Rattle.plan.proofs.Rows.{row_start}
use Rattle.verdict.specs.declared.Verdict.{Verdict}
use Rattle.verdict.specs.declared.Verdict.TheVariants.{AlwaysTrue, AlwaysFalse, Changes}
use Rattle.verdict.specs.Meaning.{VerdictMeans, is_changes}
use Rattle.verdict.specs.declared.Comparison.{Comparison}
use Rattle.verdict.specs.Comparisons.{comparison_of}
use Rattle.verdict.specs.Rows.{atom_at, judge_row, verdict_of}
use Rattle.verdict.specs.inner.Reach.{AsksLeft}
use Rattle.verdict.proofs.Verdicts.{judged, asks_left, atom_tells}
use Rattle.table.specs.Layout.{marked}
use Rattle.marks.specs.Equations.{expected}
use Rattle.marks.specs.Parts.{closes, witness_in_order, breaks, equation_outcome, steady_outcome, closing_outcome, witness_outcome}
use Rattle.marks.specs.inner.Tables.{meets_on, clear_of}
use Rattle.table.specs.inner.Tables.{all_below}
use Rattle.marks.specs.inner.PartsRead.{PartClear}
use Rattle.lanes.specs.inner.Agreement.{verdict_agrees}
use Rattle.lanes.proofs.Reaching.{negated}
use Rattle.table.proofs.AllBelow.{all_each}
use Rattle.marks.proofs.Unrolled.{equation_clear}
use Rattle.marks.proofs.Swept.{met_each}

-- ---- atoms

module _ (plan : List ℕ) (h_c : 1 ≤ cycle_rows plan) (mark : ℕ → ℕ → Bool) (v i : ℕ) (x : Atom) (fits : atom_fits v x ≡ true) where
  -- A verdict that is no change tells the truth on pass 0.
  told : (row : ℕ) → row < start_rows plan + cycle_rows plan → verdict_agrees (verdict_of plan x row) (mark i row) ≡ true → mark i row ≡ atom_at plan x row
  told row h a = sym (go (verdict_of plan x row) refl a)
    where
      means : VerdictMeans (start_rows plan) (cycle_rows plan) row (AtomHolds (run_of plan) x) (verdict_of plan x row)
      means = judged plan h_c row h v x fits

      here : row_of (start_rows plan) (cycle_rows plan) row ≡ row
      here = row_start (start_rows plan) (cycle_rows plan) row h

      go : (w : Verdict) → verdict_of plan x row ≡ w → verdict_agrees w (mark i row) ≡ true → atom_at plan x row ≡ mark i row
      go AlwaysTrue e m = (atom_tells plan v x fits row).1 (means.always_true.0 e row here) ∙ sym m
      go AlwaysFalse e m =
          not_so (atom_at plan x row) (λ t. means.always_false.0 e row here ((atom_tells plan v x fits row).0 t)) ∙ sym (negated (mark i row) m)
      go Changes e m = absurd (false≢true m)

  steady_row : (w : Verdict) (b : Bool) → verdict_agrees w b ≡ true → is_changes w ≡ false
  steady_row AlwaysTrue b e = refl
  steady_row AlwaysFalse b e = refl
  steady_row Changes b e = absurd (false≢true e)

  module _ (all : all_below (λ row. verdict_agrees (verdict_of plan x row) (mark i row)) (start_rows plan + cycle_rows plan) ≡ true) where
    each : (row : ℕ) → row < start_rows plan + cycle_rows plan → verdict_agrees (verdict_of plan x row) (mark i row) ≡ true
    each = all_each (λ row. verdict_agrees (verdict_of plan x row) (mark i row)) (start_rows plan + cycle_rows plan) all

    agree_equation : equation_outcome plan mark (view.Atom x) i ≡ unrefused
    unfolding expected rows
    agree_equation = (equation_clear plan mark (view.Atom x) i).1 (λ row h. told row h (each row h))

    agree_closing : closing_outcome plan mark (view.Atom x) i ≡ unrefused
    unfolding closing_outcome steady_outcome
    agree_closing =
        (refused_at_clear (Closing i) (lowest_from (λ row. is_changes (verdict_of plan x row)) (start_rows plan) (cycle_rows plan))).1
        ((from_none (λ row. is_changes (verdict_of plan x row)) (start_rows plan) (cycle_rows plan)).1
        (λ row low high. steady_row (verdict_of plan x row) (mark i row) (each row high)))

-- ---- operators

module _ (plan : List ℕ) (mark : ℕ → ℕ → Bool) (i : ℕ) (o : Operator) where
  met_equation : all_below (meets_on (start_rows plan) (cycle_rows plan) mark o i) (start_rows plan + cycle_rows plan) ≡ true
      → equation_outcome plan mark (view.Operator o) i ≡ unrefused
  unfolding expected rows
  met_equation all = (equation_clear plan mark (view.Operator o) i).1 (met_each (start_rows plan) (cycle_rows plan) mark i o all)

-- ---- with the sizes that were read

-- what is said with the plan's own sizes holds with the sizes that were read
pub at_sizes : {plan : List ℕ} {z : Sizes} → Fitting plan z → (Q : ℕ → ℕ → Type 0) → Q (start_rows plan) (cycle_rows plan) → Q z.start z.cycle
at_sizes fit Q q = subst₂ Q fit.p_is fit.c_is q

-- An atom's comparison asks something of its left term alone, or reaches no farther back by its right one.
pub asked : (v : ℕ) (a : Atom) → atom_fits v a ≡ true → {x : Comparison} → x ≡ comparison_of a → AsksLeft x
asked v a fits e = subst⁻¹ AsksLeft e (asks_left a)

pub own_cycle : {plan : List ℕ} {z : Sizes} → Fitting plan z → 1 ≤ cycle_rows plan
own_cycle fit = omega (arith, fit.a_cycle, fit.c_is)

module _ (plan table : List ℕ) {z : Sizes} (fit : Fitting plan z) (i : ℕ) where
  pub row_breaks : (p : View) (row : ℕ) {m b : Bool} → m ≡ marked (all_rows z) table i row
      → b ≡ expected z.start z.cycle (marked (all_rows z) table) (atom_at plan) p i row → not (beq m b) ≡ breaks plan (marked (all_rows z) table) p i row
  unfolding breaks
  row_breaks p row {m} {b} =
      at_sizes fit (λ p' c. m ≡ marked (p' + c) table i row → b ≡ expected p' c (marked (p' + c) table) (atom_at plan) p i row → not (beq m b) ≡ breaks plan (marked (p' + c) table) p i row)
      (λ e f. ap₂ (λ x y. not (beq x y)) e f)

  module _ {p : View} where
    -- atoms
    module _ (x : Atom) (e : p ≡ view.Atom x) where
      pub atom_there : (n : ℕ) → view_fits z.channels n p ≡ true → atom_fits z.channels x ≡ true
      atom_there n h = atom_fits_lem z.channels n x (subst (λ (q : View). view_fits z.channels n q ≡ true) e h)

      pub atom_clear : (n : ℕ) → view_fits z.channels n p ≡ true → {k : Comparison} → k ≡ comparison_of x → {r : Bool}
          → r ≡ all_below (λ row. verdict_agrees (judge_row plan k row) (marked (all_rows z) table i row)) (all_rows z) → r ≡ true → PartClear plan table z p i
      unfolding verdict_of
      atom_clear n h {k} g {r} c t =
          subst (λ (q : View). PartClear plan table z q i) (sym e) (record {
            closing = own.0;
            equation = own.1;
          })
        where
          d : r ≡ all_below (λ row. verdict_agrees (verdict_of plan x row) (marked (all_rows z) table i row)) (all_rows z)
          d = c ∙ ap (λ (k : Comparison). all_below (λ row. verdict_agrees (judge_row plan k row) (marked (all_rows z) table i row)) (all_rows z)) g

          own : (closing_outcome plan (marked (all_rows z) table) (view.Atom x) i ≡ unrefused) × (equation_outcome plan (marked (all_rows z) table) (view.Atom x) i ≡ unrefused)
          own =
              at_sizes fit (λ p c. r ≡ all_below (λ row. verdict_agrees (verdict_of plan x row) (marked (p + c) table i row)) (p + c)
              → (closing_outcome plan (marked (p + c) table) (view.Atom x) i ≡ unrefused) × (equation_outcome plan (marked (p + c) table) (view.Atom x) i ≡ unrefused))
              (λ d. (
                agree_closing plan (own_cycle fit) (marked (start_rows plan + cycle_rows plan) table) z.channels i x (atom_there n h) (sym d ∙ t),
                agree_equation plan (own_cycle fit) (marked (start_rows plan + cycle_rows plan) table) z.channels i x (atom_there n h) (sym d ∙ t),
              )) d

      pub atom_closing : {r : Outcome} → r ≡ steady_outcome plan x i → r ≡ closing_outcome plan (marked (all_rows z) table) p i
      unfolding closing_outcome
      atom_closing d = d ∙ sym (ap (λ (q : View). closing_outcome plan (marked (all_rows z) table) q i) e)

    -- operators
    module _ (o : Operator) (e : p ≡ view.Operator o) where
      pub operator_there : (n : ℕ) → view_fits z.channels n p ≡ true → names_lower n o ≡ true
      operator_there n h = operator_fits z.channels n o (subst (λ (q : View). view_fits z.channels n q ≡ true) e h)

      pub operator_closing : {b : Bool} {r : Outcome} → b ≡ closes z.start z.cycle (marked (all_rows z) table) o → r ≡ unless b (Closing i z.start)
          → r ≡ closing_outcome plan (marked (all_rows z) table) p i
      unfolding closing_outcome
      operator_closing {b} d h =
          h
          ∙ at_sizes fit (λ p c. b ≡ closes p c (marked (p + c) table) o → unless b (Closing i p) ≡ closing_outcome plan (marked (p + c) table) (view.Operator o) i)
          (ap (λ b. unless b (Closing i (start_rows plan)))) d
          ∙ sym (ap (λ (q : View). closing_outcome plan (marked (all_rows z) table) q i) e)

      operator_met : all_below (meets_on z.start z.cycle (marked (all_rows z) table) o i) (all_rows z) ≡ true
          → equation_outcome plan (marked (all_rows z) table) p i ≡ unrefused
      operator_met all =
          subst (λ (q : View). equation_outcome plan (marked (all_rows z) table) q i ≡ unrefused) (sym e)
          (at_sizes fit (λ p c. all_below (meets_on p c (marked (p + c) table) o i) (p + c) ≡ true → equation_outcome plan (marked (p + c) table) (view.Operator o) i ≡ unrefused)
          (met_equation plan (marked (start_rows plan + cycle_rows plan) table) i o) all)

      pub operator_clear : {r : Bool} → r ≡ clear_of z.start z.cycle (marked (all_rows z) table) o i → r ≡ true → PartClear plan table z p i
      unfolding clear_of unless
      operator_clear d t =
          let q = (and-eq-true_iff (all_below (meets_on z.start z.cycle (marked (all_rows z) table) o i) (all_rows z)) (closes z.start z.cycle (marked (all_rows z) table) o)).0 (sym d ∙ t) in
          record { closing = sym (operator_closing (sym q.1) refl); equation = operator_met q.0 }

  -- the witness
  pub witness_told : (p : View) (w : ℕ) {b : Bool} → b ≡ witness_in_order z.start z.cycle (marked (all_rows z) table) p i w
      → unless b (Witness i) ≡ witness_outcome plan (marked (all_rows z) table) p i w
  unfolding witness_outcome
  witness_told p w {b} =
      at_sizes fit (λ p' c. b ≡ witness_in_order p' c (marked (p' + c) table) p i w → unless b (Witness i) ≡ witness_outcome plan (marked (p' + c) table) p i w)
      (λ e. ap (λ b. unless b (Witness i)) e)

  -- the search for a changing row
  pub steady_starts : (x : Atom) → steady_outcome plan x i ≡ search_from (λ row. is_changes (verdict_of plan x row)) (all_rows z) (Closing i) z.start
  unfolding steady_outcome
  steady_starts x =
      at_sizes fit (λ p c. steady_outcome plan x i ≡ search_from (λ row. is_changes (verdict_of plan x row)) (p + c) (Closing i) p)
      (ap (λ (n : ℕ). refused_at (Closing i) (lowest_from (λ row. is_changes (verdict_of plan x row)) (start_rows plan) n)) (omega arith))
