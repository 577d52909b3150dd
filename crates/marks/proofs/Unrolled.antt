-- A part meets its equation on all rows and closes exactly where it meets it at every position of the endless run.
-- Assumes nothing.
use Rattle.refusal.specs.Outcome.{unrefused}
use mathlib.Core.Path.{◌≡◌, refl, sym, ap, ap₂, ◌∙◌, subst, subst₂, subst⁻¹}
use mathlib.Core.Bool.{Bool}
use mathlib.Core.List.{List}
use mathlib.Core.Logic.Iff
use mathlib.Core.Logic.{◌↔◌, ⊎_elim}
use Prim.Native.Nat.{ℕ, zero, suc, ◌≤◌, ◌<◌}
use native.Mathlib.Omega.{arith}
use lib.Dec.{T}
use Rattle.cltlb.specs.declared.Atom.{Atom}
use Rattle.cltlb.specs.declared.Operator.{Operator}
use Rattle.cltlb.specs.declared.Operator.TheVariants.{One, Two}
use Rattle.cltlb.specs.declared.View.{View}
use Rattle.cltlb.specs.declared.View.TheVariants as view
use Rattle.refusal.specs.declared.Refusal.TheVariants.{Equation, Closing}
use Rattle.refusal.proofs.First.{unless_clear_t, at_lowest_clear}
use Rattle.plan.specs.Layout.{start_rows, cycle_rows, rows}
use Rattle.verdict.specs.Rows.{atom_at}
use Rattle.marks.specs.declared.operators.Beside.{Beside}
use Rattle.marks.specs.declared.operators.Beside.TheVariants.{After, Before}
use Rattle.marks.specs.Equations.{beside_of, watched, step_on, watched_truth, mark_beside, operator_mark, expected}
use Rattle.marks.specs.Parts.{closes_by, closes, breaks, equation_outcome, closing_outcome}
use Rattle.marks.proofs.Tests.{beq_false, beq_t}
use Rattle.marks.proofs.Rows.{last_row, row_at, first_position, is_row, row_0, last_is_row, row_after, after_row_lem, next_position, after_last_row}
use Rattle.marks.proofs.Endless.{beside_at, mark_at, due}
use Rattle.marks.proofs.Comparisons.{Judged, steady_iff}
use Rattle.marks.proofs.ByMarks.{met_truth, closes_by_marks}

-- ---- an equation by the mark beside, on rows and at positions: the marks k are G of the marks m beside

module _ (plan : List ℕ) (h_c : 1 ≤ cycle_rows plan) (k m : ℕ → Bool) (G : ℕ → Bool → Bool) where
  -- on the rows, with what stands beside a row
  abbrev pub RowsMet : Beside → Type 0
  RowsMet s = (row : ℕ) → row < rows plan → k row ≡ G row (mark_beside (start_rows plan) (cycle_rows plan) s m row)

  -- at the positions
  abbrev pub PositionsMet : Beside → Type 0
  PositionsMet s = (t : ℕ) → k (row_at plan t) ≡ G (row_at plan t) (beside_at s (λ t. m (row_at plan t)) t)

  -- on row P with row W - 1 as the row before, if it looks back
  abbrev pub Wrapped : Beside → Type 0
  Wrapped After = Unit {0}
  Wrapped (Before first) = k (start_rows plan) ≡ G (start_rows plan) (m (last_row plan))

  row0 : row_at plan 0 ≡ 0
  row0 = first_position plan 0 (row_0 plan h_c)

  -- What stands beside a row is what stands beside its first position.
  pub beside_same : (s : Beside) (row : ℕ) → row < rows plan
      → mark_beside (start_rows plan) (cycle_rows plan) s m row ≡ beside_at s (λ t. m (row_at plan t)) row
  unfolding mark_beside
  beside_same After row l = ap m (after_row_lem plan h_c row l)
  beside_same (Before first) zero l = refl
  beside_same (Before first) (suc row) l = ap m (sym (first_position plan row (omega arith)))

  -- the rows are met where the positions are
  rows_met : (s : Beside) → PositionsMet s → RowsMet s
  rows_met s h row l =
      subst (λ (x : ℕ). k x ≡ G x (beside_at s (λ t. m (row_at plan t)) row)) (first_position plan row l) (h row)
      ∙ ap (G row) (sym (beside_same s row l))

  -- and so is row P after row W - 1
  wrapped : (s : Beside) → PositionsMet s → Wrapped s
  wrapped After h = tt
  wrapped (Before first) h =
      subst₂ (λ (x y : ℕ). k x ≡ G x (m y)) (after_last_row plan h_c) (first_position plan (last_row plan) (last_is_row plan h_c)) (h (suc (last_row plan)))

  -- The other way round, the row after W - 1 being P.
  positions_met : (s : Beside) → RowsMet s → Wrapped s → PositionsMet s
  unfolding mark_beside
  positions_met After h w t = h (row_at plan t) (is_row plan h_c t) ∙ ap (λ (x : ℕ). G (row_at plan t) (m x)) (row_after plan h_c t)
  positions_met (Before first) h w zero = subst⁻¹ (λ (x : ℕ). k x ≡ G x first) row0 (h 0 (row_0 plan h_c))
  positions_met (Before first) h w (suc t) =
      ⊎_elim
      (λ q. subst⁻¹ (λ (x : ℕ). k x ≡ G x (m (row_at plan t))) q.1 (h (suc (row_at plan t)) q.0))
      (λ q. subst⁻¹ (λ (x : ℕ). k x ≡ G x (m (row_at plan t))) q.1 (subst⁻¹ (λ (x : ℕ). k (start_rows plan) ≡ G (start_rows plan) (m x)) q.0 w))
      (next_position plan h_c t)

  pub unrolled : (s : Beside) → (RowsMet s × Wrapped s) ↔ PositionsMet s
  unrolled s = (λ h. positions_met s h.0 h.1, λ h. (rows_met s h, wrapped s h))

-- ---- parts

-- What an operator sees of its own marks is the marks that it watches.
watched_as : (mark : ℕ → ℕ → Bool) (o : Operator) (i : ℕ) (Q : (ℕ → Bool) → Type 0) → Q (mark (watched o i)) ↔ Q (λ row. watched_truth mark o (mark i row) row)
watched_as mark (One o a) i Q = Iff.rfl
watched_as mark (Two o a b) i Q = Iff.rfl

module _ (plan : List ℕ) (mark : ℕ → ℕ → Bool) where
  abbrev pub Meets : View → ℕ → Type 0
  Meets p i = (t : ℕ) → mark_at plan mark i t ≡ due plan mark p (mark_at plan mark i) t

  -- what the mark of part i on a row has to be
  abbrev pub expected_on : View → ℕ → ℕ → Bool
  expected_on p i row = expected (start_rows plan) (cycle_rows plan) mark (atom_at plan) p i row

  abbrev pub OnRows : View → ℕ → Type 0
  OnRows p i = (row : ℕ) → row < rows plan → mark i row ≡ expected_on p i row

  pub equation_clear : (p : View) (i : ℕ) → (equation_outcome plan mark p i ≡ unrefused) ↔ OnRows p i
  unfolding equation_outcome breaks
  equation_clear p i =
      Iff.trans (at_lowest_clear (breaks plan mark p i) (rows plan) (Equation i))
      (λ h row l. (beq_false _ _).0 (h row l), λ h row l. (beq_false (mark i row) (expected_on p i row)).1 (h row l))

  module _ (h_c : 1 ≤ cycle_rows plan) where
    -- What the equation asks on a row is what is due at the row's first position.
    pub expected_due : (p : View) (i row : ℕ) → row < rows plan → expected_on p i row ≡ due plan mark p (mark_at plan mark i) row
    unfolding expected operator_mark due
    expected_due (view.Atom x) i row l = refl
    expected_due (view.Operator o) i row l =
        (watched_as mark o i (λ m. step_on mark o row (mark_beside (start_rows plan) (cycle_rows plan) (beside_of o) (mark (watched o i)) row)
        ≡ step_on mark o (row_at plan row) (beside_at (beside_of o) (λ t. m (row_at plan t)) row))).0
        (ap₂ (step_on mark o) (sym (first_position plan row l)) (beside_same plan h_c (mark i) (mark (watched o i)) (step_on mark o) (beside_of o) row l))

    -- Of an operator whose marks meet the equation on the rows, closing is that row P meets it after row W - 1.
    closes_wrapped : (o : Operator) (i : ℕ) → OnRows (view.Operator o) i
        → T (closes (start_rows plan) (cycle_rows plan) mark o) ↔ Wrapped plan h_c (mark i) (mark (watched o i)) (step_on mark o) (beside_of o)
    unfolding expected rows closes closes_by
    closes_wrapped o i met = go (beside_of o) refl
      where
        go : (s : Beside) → beside_of o ≡ s → T (closes_by (start_rows plan) (cycle_rows plan) mark (beside_of o) o) ↔ Wrapped plan h_c (mark i) (mark (watched o i)) (step_on mark o) s
        go After e = subst⁻¹ (λ (s : Beside). T (closes_by (start_rows plan) (cycle_rows plan) mark s o) ↔ Unit {0}) e Iff.rfl
        go (Before first) e =
            subst⁻¹ (λ (x : Bool). T x ↔ (mark i (start_rows plan) ≡ step_on mark o (start_rows plan) (mark (watched o i) (last_row plan))))
            (closes_by_marks (start_rows plan) (cycle_rows plan) mark o i h_c (met_truth (start_rows plan) (cycle_rows plan) mark o i met) first e)
            (beq_t (mark i (start_rows plan)) (step_on mark o (start_rows plan) (mark (watched o i) (last_row plan))))

    operator_meets : (o : Operator) (i : ℕ) → ((closing_outcome plan mark (view.Operator o) i ≡ unrefused) × OnRows (view.Operator o) i) ↔ Meets (view.Operator o) i
    unfolding closing_outcome expected operator_mark due rows
    operator_meets o i =
        Iff.trans (
          λ h. (h.1, (closes_wrapped o i h.1).0 (closing.0 h.0)),
          λ h. (closing.1 ((closes_wrapped o i h.0).1 h.1), h.0),
        ) (Iff.trans (unrolled plan h_c (mark i) (mark (watched o i)) (step_on mark o) (beside_of o))
        (watched_as mark o i (λ m. (t : ℕ) → mark_at plan mark i t ≡ step_on mark o (row_at plan t) (beside_at (beside_of o) (λ s. m (row_at plan s)) t))))
      where
        closing : (closing_outcome plan mark (view.Operator o) i ≡ unrefused) ↔ T (closes (start_rows plan) (cycle_rows plan) mark o)
        closing = unless_clear_t (closes (start_rows plan) (cycle_rows plan) mark o) (Closing i (start_rows plan))

    atom_meets : (x : Atom) (i : ℕ) (F : ℕ → Type 0) → Judged plan x F
        → ((closing_outcome plan mark (view.Atom x) i ≡ unrefused) × OnRows (view.Atom x) i) ↔ Meets (view.Atom x) i
    unfolding closing_outcome expected due
    atom_meets x i F judged =
        let steady = steady_iff plan h_c x i F judged in (
          λ h t. h.1 (row_at plan t) (is_row plan h_c t) ∙ steady.0 h.0 t,
          λ h. (
            steady.1 (λ t. sym (h (row_at plan t)) ∙ ap (mark i) (first_position plan (row_at plan t) (is_row plan h_c t)) ∙ h t),
            λ row l. ap (mark i) (sym (first_position plan row l)) ∙ h row,
          ),
        )

    -- A part passes refusals 10 and 9 exactly where it meets its equation at every position; of an atom, where its verdicts are
    -- right.
    pub meets_iff : (p : View) (i : ℕ) → ((x : Atom) → p ≡ view.Atom x → (F : ℕ → Type 0) × Judged plan x F)
        → ((closing_outcome plan mark p i ≡ unrefused) × (equation_outcome plan mark p i ≡ unrefused)) ↔ Meets p i
    meets_iff p i judged = Iff.trans (Iff.and Iff.rfl (equation_clear p i)) (by_view p judged)
      where
        by_view : (p : View) → ((x : Atom) → p ≡ view.Atom x → (F : ℕ → Type 0) × Judged plan x F) → ((closing_outcome plan mark p i ≡ unrefused) × OnRows p i) ↔ Meets p i
        by_view (view.Atom x) judged = atom_meets x i (judged x refl).0 (judged x refl).1
        by_view (view.Operator o) judged = operator_meets o i
