-- One part, where the marks of the parts that it names are the truth: it passes refusals 10, 9 and 11 exactly where its marks
-- are its published truth at every position and its witness is in order. Assumes nothing.
use Rattle.refusal.specs.Outcome.{unrefused}
use mathlib.Core.Path.{◌≡◌, refl, sym, ap, subst}
use mathlib.Core.Bool.{Bool, true}
use mathlib.Core.List.{List}
use mathlib.Core.Logic.Iff
use mathlib.Core.Logic.{◌↔◌, ◌⊎◌, inl, inr}
use Prim.Native.Nat.{ℕ, suc, ◌+◌, ◌≤◌, ◌<◌}
use native.Mathlib.Omega.{arith}
use lib.Dec.{T, eqb_refl}
use Rattle.cltlb.specs.Truth.{Formula, BinaryHolds, Holds}
use Rattle.cltlb.specs.Views.{two_view}
use Rattle.cltlb.specs.Parts.{formula_from}
use Rattle.cltlb.specs.Fits.{view_fits}
use Rattle.cltlb.specs.declared.Binary.{Binary}
use Rattle.cltlb.specs.declared.Binary.TheVariants as binary
use Rattle.cltlb.specs.declared.Operator.TheVariants.{One, Two}
use Rattle.cltlb.specs.declared.View.{View}
use Rattle.cltlb.specs.declared.View.TheVariants as view
use Rattle.cltlb.proofs.Fits.{atom_fits_lem, operator_fits, one_lower, two_lower}
use Rattle.cltlb.proofs.Repeats.{RepeatsFrom, until_shift, release_shift}
use Rattle.refusal.specs.First.{◌or_else◌}
use Rattle.refusal.specs.declared.Refusal.TheVariants.{Witness}
use Rattle.refusal.proofs.First.{or_else_clear, unless_clear, unless_clear_t}
use Rattle.plan.specs.Layout.{start_rows, cycle_rows}
use Rattle.plan.specs.Run.{run_of}
use Rattle.verdict.specs.Rows.{atom_at}
use Rattle.verdict.proofs.Decisions.{T_true}
use Rattle.verdict.proofs.Verdicts.{atom_tells}
use Rattle.marks.specs.Parts.{no_witness, witness_two, witness_of_operator, witness_in_order, closes, closes_by, equation_outcome, closing_outcome, witness_outcome, part_outcome}
use Rattle.marks.proofs.Tests.{T-path, T-ext, and_iff, or_iff}
use Rattle.marks.proofs.Rows.{once_more}
use Rattle.marks.proofs.Endless.{Agrees, mark_at, due}
use Rattle.marks.proofs.Temporal.{unary_agrees, until_agrees, until_by, release_agrees, release_by, since_by, trigger_by, meets_agrees}
use Rattle.marks.proofs.Comparisons.{judged_atom}
use Rattle.marks.proofs.Unrolled.{Meets, meets_iff}
use Rattle.marks.proofs.Witnesses.{until_decides, release_decides, until_served, release_served}

module _ (plan : List ℕ) (mark : ℕ → ℕ → Bool) (f : ℕ → Formula) where
  -- The marks of part i are the truth of a formula.
  abbrev pub Right : ℕ → Formula → Type 0
  Right i g = Agrees (mark_at plan mark i) (Holds (run_of plan) g)

  -- the published truth of part i, from the formulas of the parts that it names
  abbrev pub This : View → ℕ → Type 0
  This p = Holds (run_of plan) (formula_from p f)

  -- U and R
  abbrev pub Ahead : View → Type 0
  Ahead p = ((a b : ℕ) × (p ≡ two_view binary.Until a b)) ⊎ ((a b : ℕ) × (p ≡ two_view binary.Release a b))

  -- The two ways in which what is due of a part at a position is the truth there.
  pub data Due (p : View) (i : ℕ) : Type 0 where
    -- every kind but U and R: where what stands for its earlier marks, these or its truth, is true
    by_earlier : ((own : ℕ → Bool) (t : ℕ) → ((k : ℕ) → k < t → T (own k) ↔ This p k) → T (due plan mark p own t) ↔ This p t) → Due p i
    -- U and R: where its next mark is true. Their truth in the cycle is the same on every pass, they always close, and a witness
    -- in order makes marks that meet the equation true.
    by_later : Ahead p
        → ((t : ℕ) → T (mark_at plan mark i (suc t)) ↔ This p (suc t) → T (due plan mark p (mark_at plan mark i) t) ↔ This p t)
        → RepeatsFrom (cycle_rows plan) (start_rows plan) (This p)
        → closing_outcome plan mark p i ≡ unrefused
        → ((w : ℕ) → T (witness_in_order (start_rows plan) (cycle_rows plan) mark p i w) → Meets plan mark p i → Right i (formula_from p f))
        → Due p i

  module _ (h_c : 1 ≤ cycle_rows plan) (i : ℕ) (named : (a : ℕ) → a < i → Right a (f a)) where
    -- the marks and the truth of a named part
    abbrev at : ℕ → ℕ → Bool
    at a = mark_at plan mark a

    abbrev Of : ℕ → ℕ → Type 0
    Of a = Holds (run_of plan) (f a)

    -- the truth of a named part in the cycle is the same on every pass
    pub repeats : (a : ℕ) → a < i → (t : ℕ) → start_rows plan ≤ t → RepeatsFrom (cycle_rows plan) t (Of a)
    repeats a l t h k q =
        let once = sym (once_more plan h_c k (omega arith)) in
        Iff.trans (Iff.symm (named a l k)) (Iff.trans (T-path (ap (mark a) once)) (named a l (k + cycle_rows plan)))

    -- an operator over two parts
    two_due : (o : Binary) (a b : ℕ) → a < i → b < i → Due (two_view o a b) i
    unfolding formula_from Holds BinaryHolds due closing_outcome closes closes_by
    two_due binary.And a b la lb = by_earlier (λ _ t _. and_iff (at a t) (at b t) (named a la t) (named b lb t))
    two_due binary.Or a b la lb = by_earlier (λ _ t _. or_iff (at a t) (at b t) (named a la t) (named b lb t))
    two_due binary.Until a b la lb =
        by_later
        (inl (a, b, refl))
        (until_by (Of a) (Of b) (at a) (at b) (at i) (named a la) (named b lb))
        (λ t h. until_shift (Of a) (Of b) (cycle_rows plan) t (repeats a la t h) (repeats b lb t h))
        ((unless_clear true _).1 refl)
        (λ w ok meets. until_agrees (Of a) (Of b) (at a) (at b) (at i) (named a la) (named b lb) meets (until_decides plan mark h_c (Of b) a b i w (named b lb) ok))
    two_due binary.Release a b la lb =
        by_later
        (inr (a, b, refl))
        (release_by (Of a) (Of b) (at a) (at b) (at i) (named a la) (named b lb))
        (λ t h. release_shift (Of a) (Of b) (cycle_rows plan) t (repeats a la t h) (repeats b lb t h))
        ((unless_clear true _).1 refl)
        (λ w ok meets. release_agrees (Of a) (Of b) (at a) (at b) (at i) (named a la) (named b lb) meets (release_decides plan mark h_c (Of b) a b i w (named b lb) ok))
    two_due binary.Since a b la lb = by_earlier (λ own. since_by (Of a) (Of b) (at a) (at b) own (named a la) (named b lb))
    two_due binary.Trigger a b la lb = by_earlier (λ own. trigger_by (Of a) (Of b) (at a) (at b) own (named a la) (named b lb))

    pub is_due : (v : ℕ) (p : View) → view_fits v i p ≡ true → Due p i
    unfolding formula_from Holds due
    is_due v (view.Atom x) fits = by_earlier (λ _ t _. Iff.trans (T_true (atom_at plan x t)) (atom_tells plan v x (atom_fits_lem v i x fits) t))
    is_due v (view.Operator (One o a)) fits =
        let l = one_lower i o a (operator_fits v i (One o a) fits) in by_earlier (λ _ t _. unary_agrees (Of a) (at a) (named a l) o t)
    is_due v (view.Operator (Two o a b)) fits = let l = two_lower i o a b (operator_fits v i (Two o a b) fits) in two_due o a b l.0 l.1

    -- Marks that are the truth have a witness in order.
    pub right_served : (v : ℕ) (p : View) → view_fits v i p ≡ true → Right i (formula_from p f)
        → (w : ℕ) × T (witness_in_order (start_rows plan) (cycle_rows plan) mark p i w)
    unfolding formula_from Holds BinaryHolds witness_in_order witness_of_operator witness_two
    right_served v (view.Atom x) fits right = (no_witness, eqb_refl no_witness)
    right_served v (view.Operator (One o a)) fits right = (no_witness, eqb_refl no_witness)
    right_served v (view.Operator (Two binary.And a b)) fits right = (no_witness, eqb_refl no_witness)
    right_served v (view.Operator (Two binary.Or a b)) fits right = (no_witness, eqb_refl no_witness)
    right_served v (view.Operator (Two binary.Until a b)) fits right =
        let l = two_lower i binary.Until a b (operator_fits v i (Two binary.Until a b) fits) in
        until_served plan mark h_c (Of a) (Of b) a b i (named b l.1) right
    right_served v (view.Operator (Two binary.Release a b)) fits right =
        let l = two_lower i binary.Release a b (operator_fits v i (Two binary.Release a b) fits) in
        release_served plan mark h_c (Of a) (Of b) a b i (named b l.1) right
    right_served v (view.Operator (Two binary.Since a b)) fits right = (no_witness, eqb_refl no_witness)
    right_served v (view.Operator (Two binary.Trigger a b)) fits right = (no_witness, eqb_refl no_witness)

    -- Marks that meet the equation at every position are the truth, with a witness in order, and the truth meets it.
    meets_right : (p : View) (w : ℕ) → Due p i → T (witness_in_order (start_rows plan) (cycle_rows plan) mark p i w)
        → Meets plan mark p i ↔ Right i (formula_from p f)
    meets_right p w (by_earlier by) ok = meets_agrees (This p) (mark_at plan mark i) (due plan mark p (mark_at plan mark i)) (by (mark_at plan mark i))
    meets_right p w (by_later kind by later closes decides) ok = (
      decides w ok,
      λ right t. T-ext (mark_at plan mark i t) (due plan mark p (mark_at plan mark i) t) (Iff.trans (right t) (Iff.symm (by t (right (suc t))))),
    )

    passes_iff : (v : ℕ) (p : View) → view_fits v i p ≡ true
        → ((closing_outcome plan mark p i ≡ unrefused) × (equation_outcome plan mark p i ≡ unrefused)) ↔ Meets plan mark p i
    passes_iff v p fits = meets_iff plan mark h_c p i (λ x e. (_, judged_atom plan h_c v x (atom_fits_lem v i x (subst (λ q. view_fits v i q ≡ true) e fits))))

    -- Marks that pass 10 and 9 are the truth, with a witness in order.
    pub passed_right : (v : ℕ) (p : View) (w : ℕ) → view_fits v i p ≡ true → closing_outcome plan mark p i ≡ unrefused → equation_outcome plan mark p i ≡ unrefused
        → T (witness_in_order (start_rows plan) (cycle_rows plan) mark p i w) → Right i (formula_from p f)
    passed_right v p w fits closes met ok = (meets_right p w (is_due v p fits) ok).0 ((passes_iff v p fits).0 (closes, met))

    pub part_accepted : (v : ℕ) (p : View) (w : ℕ) → view_fits v i p ≡ true
        → (part_outcome plan mark p i w ≡ unrefused) ↔ (Right i (formula_from p f) × T (witness_in_order (start_rows plan) (cycle_rows plan) mark p i w))
    unfolding part_outcome witness_outcome
    part_accepted v p w fits =
        Iff.trans (or_else_clear (closing_outcome plan mark p i) (equation_outcome plan mark p i or_else witness_outcome plan mark p i w))
        (Iff.trans (Iff.and Iff.rfl (Iff.trans (or_else_clear (equation_outcome plan mark p i) (witness_outcome plan mark p i w))
        (Iff.and Iff.rfl (unless_clear_t (witness_in_order (start_rows plan) (cycle_rows plan) mark p i w) (Witness i))))) (
          λ h. ((right h.1.1).0 (whole.0 (h.0, h.1.0)), h.1.1),
          λ h. let met = whole.1 ((right h.1).1 h.0) in (met.0, (met.1, h.1)),
        ))
      where
        whole : ((closing_outcome plan mark p i ≡ unrefused) × (equation_outcome plan mark p i ≡ unrefused)) ↔ Meets plan mark p i
        whole = passes_iff v p fits

        right : T (witness_in_order (start_rows plan) (cycle_rows plan) mark p i w) → Meets plan mark p i ↔ Right i (formula_from p f)
        right = meets_right p w (is_due v p fits)
