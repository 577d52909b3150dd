-- One part made, by its view: what the code knows once its rows are written. Assumes nothing.
use mathlib.Core.Path.{◌≡◌, refl, sym, ap, ◌∙◌, subst, subst⁻¹}
use mathlib.Core.Bool.{Bool, true}
use mathlib.Core.List.{List}
use mathlib.Core.Logic.{inl}
use Prim.Native.Nat.{ℕ, ◌+◌, ◌*◌, ◌≤◌, ◌<◌}
use native.Mathlib.Nat.{mul-le-mul_right}
use native.Mathlib.Omega.{arith}
use lib.Dec.{eqb}
use lib.ListN.{get_or}
use Rattle.cltlb.specs.Fits.{atom_fits, names_lower, view_fits}
use Rattle.cltlb.specs.declared.Atom.{Atom}
use Rattle.cltlb.specs.declared.Operator.{Operator}
use Rattle.cltlb.specs.declared.View.{View}
use Rattle.cltlb.specs.declared.View.TheVariants as view
use Rattle.cltlb.proofs.Fits.{atom_fits_lem, operator_fits, view_more}
use Rattle.refusal.specs.First.{unless}
use Rattle.refusal.specs.Outcome.{Outcome}
use Rattle.refusal.specs.declared.Refusal.TheVariants.{Closing}
use Rattle.plan.specs.Layout.{start_rows, cycle_rows, rows}
use Rattle.plan.specs.declared.sizes.Sizes.{Sizes}
use Rattle.plan.specs.inner.Sizes.{all_rows, Fitting}
use Rattle.plan.proofs.Fits.{rows_are}
use Rattle.verdict.specs.Rows.{atom_at}
use Rattle.table.specs.Layout.{mark_byte, marked}
use Rattle.table.specs.Bytes.{byte_of}
use Rattle.table.specs.inner.Stored.{Stored}
use Rattle.table.proofs.TableBytes.{read_byte}
use Rattle.marks.specs.declared.operators.Beside.{Beside}
use Rattle.marks.specs.Parts.{closes, steady_outcome, closing_outcome}
use Rattle.marks.specs.inner.Tables.{TruthMarked}
use Rattle.marks.proofs.PartsChecked.{at_sizes, own_cycle, operator_closing}
use Rattle.labelling.specs.Labels.{label_by, operator_label, label_of}
use Rattle.labelling.specs.inner.Rows.{RowsLabelled}
use Rattle.labelling.proofs.Labelled.{Labelled}
use Rattle.labelling.proofs.SameMarks.{SameBelow, label_same, closing_same}

-- ---- rows written over, as marks

module _ (w i : ℕ) {old new : List ℕ} {bytes : ℕ → ℕ} (done : Stored old new (4 + i * w) 0 w bytes) where
  -- The marks of lower parts are as they were,
  lower_kept : (a : ℕ) → a < i → (row : ℕ) → row < w → marked w old a row ≡ marked w new a row
  unfolding marked mark_byte
  lower_kept a h row l =
      let below : (a + 1) * w ≤ i * w = mul-le-mul_right w (omega arith) in
      ap (λ (x : ℕ). eqb x 1) (sym (done.outside (4 + (a * w + row)) (inl (omega arith))))

  -- and those of the part are the bytes written.
  own_byte : (row : ℕ) → row < w → get_or new (4 + (i * w + row)) 0 ≡ bytes row
  own_byte row l = let place : 4 + (i * w + row) ≡ 4 + i * w + row = omega arith in ap (λ (x : ℕ). get_or new x 0) place ∙ done.inside row (omega arith) l

own_mark : (w i : ℕ) {old new : List ℕ} (mark : ℕ → Bool) → Stored old new (4 + i * w) 0 w (λ row. byte_of (mark row))
    → (row : ℕ) → row < w → marked w new i row ≡ mark row
unfolding marked mark_byte
own_mark w i mark done row l = ap (λ (x : ℕ). eqb x 1) (own_byte w i done row l) ∙ read_byte (mark row)

-- ---- an operator, once its rows are written

module _ (plan : List ℕ) {z : Sizes} (fit : Fitting plan z) (i : ℕ) (o : Operator)
    (fits : view_fits z.channels i (view.Operator o) ≡ true) {old new : List ℕ}
    (done : Stored old new (4 + i * all_rows z) 0 (all_rows z) (λ row. byte_of (operator_label z.start z.cycle (marked (all_rows z) old) o row))) where
  abbrev own : View
  own = view.Operator o

  -- the rows hold the part's marks,
  label_done : Stored old new (4 + i * all_rows z) 0 (all_rows z) (λ row. byte_of (label_of plan (marked (all_rows z) old) (view.Operator o) row))
  unfolding label_of
  label_done =
      at_sizes fit (λ P C. Stored old new (4 + i * all_rows z) 0 (P + C) (λ row. byte_of (operator_label P C (marked (all_rows z) old) o row))
      → Stored old new (4 + i * all_rows z) 0 (P + C) (λ row. byte_of (label_of plan (marked (all_rows z) old) (view.Operator o) row))) (λ s. s) done

  same : SameBelow plan (marked (all_rows z) old) (marked (all_rows z) new) i
  same a h row l = lower_kept (all_rows z) i done a h row (subst (λ (w : ℕ). row < w) (rows_are fit) l)

  labelled : Labelled plan (marked (all_rows z) new) own i
  labelled row l =
      own_mark (all_rows z) i (label_of plan (marked (all_rows z) old) own) label_done row (subst (λ (w : ℕ). row < w) (rows_are fit) l)
      ∙ label_same plan (own_cycle fit) (marked (all_rows z) old) (marked (all_rows z) new) i same z.channels own fits row l

  -- which are its truth, if it looks back,
  label_truth : TruthMarked z.start z.cycle (marked (all_rows z) new) o i
  unfolding label_of operator_label label_by rows
  label_truth =
      at_sizes fit (λ P C. TruthMarked P C (marked (all_rows z) new) o i)
      (λ first e row l. labelled row l ∙ ap (λ (s : Beside). label_by (start_rows plan) (cycle_rows plan) (marked (all_rows z) new) s o row) e)

  -- and whether it closes is what it was before.
  closing_kept : closing_outcome plan (marked (all_rows z) new) (view.Operator o) i ≡ closing_outcome plan (marked (all_rows z) old) (view.Operator o) i
  closing_kept = sym (closing_same plan (own_cycle fit) (marked (all_rows z) old) (marked (all_rows z) new) i same z.channels own fits)

-- ---- by the view

module _ (plan : List ℕ) {z : Sizes} (fit : Fitting plan z) (n i : ℕ) {p : View} (fits : view_fits z.channels i p ≡ true) where
  module _ (x : Atom) (e : p ≡ view.Atom x) where
    pub atom_there : atom_fits z.channels x ≡ true
    atom_there = atom_fits_lem z.channels i x (subst (λ (q : View). view_fits z.channels i q ≡ true) e fits)

    pub atom_made : {old new : List ℕ} {r : Outcome} → r ≡ steady_outcome plan x i → RowsLabelled old new (all_rows z) i r (atom_at plan x)
        → (r ≡ closing_outcome plan (marked (all_rows z) old) p i) × RowsLabelled old new (all_rows z) i r (label_of plan (marked (all_rows z) old) p)
    unfolding closing_outcome label_of
    atom_made {old} {new} {r} d w =
        subst⁻¹ (λ (q : View). (r ≡ closing_outcome plan (marked (all_rows z) old) q i) × RowsLabelled old new (all_rows z) i r (label_of plan (marked (all_rows z) old) q)) e (d, w)

  module _ (o : Operator) (e : p ≡ view.Operator o) where
    own_fits : view_fits z.channels i (view.Operator o) ≡ true
    own_fits = subst (λ (q : View). view_fits z.channels i q ≡ true) e fits

    pub operator_there : names_lower i o ≡ true
    operator_there = operator_fits z.channels i o own_fits

    module _ {old new : List ℕ}
        (done : Stored old new (4 + i * all_rows z) 0 (all_rows z) (λ row. byte_of (operator_label z.start z.cycle (marked (all_rows z) old) o row))) where
      -- Whether it closes is looked for in the table as it is now,
      pub operator_ready : i < n → (i < n) × (names_lower n o ≡ true) × TruthMarked z.start z.cycle (marked (all_rows z) new) o i
      operator_ready l = (
        l,
        operator_fits z.channels n o (view_more z.channels z.channels (omega arith) i n (omega arith) (view.Operator o) own_fits),
        label_truth plan fit i o own_fits done,
      )

      -- and 10 says of the part made what it says of the part to be made.
      pub operator_made : {b : Bool} {r : Outcome} → b ≡ closes z.start z.cycle (marked (all_rows z) new) o → r ≡ unless b (Closing i z.start)
          → (r ≡ closing_outcome plan (marked (all_rows z) old) p i) × RowsLabelled old new (all_rows z) i r (label_of plan (marked (all_rows z) old) p)
      operator_made {b} {r} c d =
          subst⁻¹ (λ (q : View). (r ≡ closing_outcome plan (marked (all_rows z) old) q i) × RowsLabelled old new (all_rows z) i r (label_of plan (marked (all_rows z) old) q)) e (
            operator_closing plan new fit i o refl c d ∙ closing_kept plan fit i o own_fits done,
            record { rows_alone = (_, done); made = λ _. label_done plan fit i o own_fits done },
          )
