-- The marks made, part after part: each is made of the marks made, and where every part closes they are accepted with the lowest
-- witnesses; where one does not close, no marks are accepted. Assumes nothing.
use Rattle.std.specs.Prelude.{Err}
use Rattle.refusal.specs.Outcome.{unrefused}
use mathlib.Core.Path.{◌≡◌, refl, sym, ◌∙◌, subst, subst⁻¹}
use mathlib.Core.Bool.{Bool, true}
use mathlib.Core.List.{List}
use mathlib.Core.Logic.Iff
use mathlib.Core.Logic.{◌↔◌}
use Prim.Native.Nat.{ℕ, zero, suc, ◌≤◌, ◌<◌}
use native.Mathlib.Nat.{not-suc-le-zero}
use native.Mathlib.Omega.{arith}
use lib.Dec.{T}
use Rattle.cltlb.specs.Fits.{view_fits}
use Rattle.cltlb.specs.declared.View.{View}
use Rattle.refusal.specs.First.{◌or_else◌}
use Rattle.refusal.specs.declared.Refusal.{Refusal}
use Rattle.refusal.specs.declared.Refusal.TheVariants.{Closing, Witness}
use Rattle.refusal.proofs.First.{or_else_clear, unless_clear_t, in_turn_clear}
use Rattle.plan.specs.Layout.{start_rows, cycle_rows, rows}
use Rattle.marks.specs.Parts.{witness_in_order, equation_outcome, closing_outcome, witness_outcome, part_outcome}
use Rattle.marks.specs.Meaning.{PartSettled}
use Rattle.marks.specs.RefusalMeaning.{ClosingMeans}
use Rattle.marks.proofs.Rows.{first_position}
use Rattle.marks.proofs.Tests.{T-ext}
use Rattle.marks.proofs.Unrolled.{equation_clear}
use Rattle.marks.proofs.Accepted.{TrueAt, Accepted, below}
use Rattle.marks.proofs.RefusalMeans.{closing_says, closing_settled}
use Rattle.labelling.specs.Labels.{lowest_witness, label_to, made_mark, made_witness}
use Rattle.labelling.proofs.Labelled.{Labelled, label_meets, lowest_in_order}
use Rattle.labelling.proofs.SameMarks.{SameBelow, label_same, closing_same, witness_same}

-- What refusals 1 to 3 clear of the parts: they fit, with v channels.
module _ (plan : List ℕ) (h_c : 1 ≤ cycle_rows plan) (parts : ℕ → View) (v n : ℕ)
    (fits : (i : ℕ) → i < n → view_fits v i (parts i) ≡ true) where
  -- ---- how deep names are followed is no matter, if it is deep enough

  depth_same : (d e i : ℕ) → i < d → i < e → i < n → (row : ℕ) → row < rows plan → label_to parts plan d i row ≡ label_to parts plan e i row
  unfolding label_to
  depth_same zero e i h k l row q = absurd (not-suc-le-zero h)
  depth_same (suc d) zero i h k l row q = absurd (not-suc-le-zero k)
  depth_same (suc d) (suc e) i h k l row q =
      let lower : SameBelow plan (label_to parts plan d) (label_to parts plan e) i =
      λ a s r t. depth_same d e a (omega arith) (omega arith) (omega arith) r t in
      label_same plan h_c (label_to parts plan d) (label_to parts plan e) i lower v (parts i) (fits i l) row q

  -- The marks made are made of the marks made.
  pub made_labelled : (i : ℕ) → i < n → Labelled plan (made_mark parts plan) (parts i) i
  unfolding made_mark label_to
  made_labelled i l row q =
      label_same plan h_c (label_to parts plan i) (made_mark parts plan) i
      (λ a s r t. depth_same i (suc a) a s (omega arith) (omega arith) r t) v (parts i) (fits i l) row q

  -- ---- parts that close

  -- closing of part i, by the marks made
  abbrev pub Closed : ℕ → Type 0
  Closed i = closing_outcome plan (made_mark parts plan) (parts i) i ≡ unrefused

  -- ---- marks that are made as the definition says, of all parts

  module _ (mark : ℕ → ℕ → Bool) (labelled : (i : ℕ) → i < n → Labelled plan mark (parts i) i) where
    -- A part that closes passes refusals 9, 10 and 11, with the lowest witness.
    pub closed_passes : (i : ℕ) → i < n → closing_outcome plan mark (parts i) i ≡ unrefused → {w : ℕ} → w ≡ lowest_witness plan mark (parts i) i
        → part_outcome plan mark (parts i) i w ≡ unrefused
    unfolding part_outcome witness_outcome
    closed_passes i l closed {w} e =
        (or_else_clear (closing_outcome plan mark p i) (equation_outcome plan mark p i or_else witness_outcome plan mark p i w)).1 (
          closed,
          (or_else_clear (equation_outcome plan mark p i) (witness_outcome plan mark p i w)).1 (
            (equation_clear plan mark p i).1 (label_meets plan h_c mark p i (labelled i l)),
            (unless_clear_t (witness_in_order (start_rows plan) (cycle_rows plan) mark p i w) (Witness i)).1
                (subst⁻¹ (λ (u : ℕ). T (witness_in_order (start_rows plan) (cycle_rows plan) mark p i u)) e (lowest_in_order plan h_c mark p i (labelled i l))),
          ),
        )
      where
        p : View
        p = parts i

    -- All parts.
    pub closed_accepted : ((i : ℕ) → i < n → closing_outcome plan mark (parts i) i ≡ unrefused) → (witness : ℕ → ℕ)
        → ((i : ℕ) → i < n → witness i ≡ lowest_witness plan mark (parts i) i) → Accepted plan parts n mark witness
    closed_accepted closed witness low =
        (in_turn_clear (λ i. part_outcome plan mark (parts i) i (witness i)) n).1 (λ i l. closed_passes i l (closed i l) (low i l))

  -- MADE: where every part closes, marks that agree on the rows with the marks made are accepted with the lowest witnesses.
  module _ (mark : ℕ → ℕ → Bool) (same : SameBelow plan (made_mark parts plan) mark n) where
    below_same : (i : ℕ) → i < n → SameBelow plan (made_mark parts plan) mark i
    below_same i l a q = same a (omega arith)

    agree_labelled : (i : ℕ) → i < n → Labelled plan mark (parts i) i
    agree_labelled i l row q =
        sym (same i l row q) ∙ made_labelled i l row q ∙ label_same plan h_c (made_mark parts plan) mark i (below_same i l) v (parts i) (fits i l) row q

    pub agree_witness : (i : ℕ) → i < n → made_witness parts plan i ≡ lowest_witness plan mark (parts i) i
    unfolding made_witness
    agree_witness i l = witness_same plan h_c (made_mark parts plan) mark i (λ a q. same a (omega arith)) v (parts i) (fits i l)

    pub made_accepted : ((i : ℕ) → i < n → Closed i) → (witness : ℕ → ℕ) → ((i : ℕ) → i < n → witness i ≡ made_witness parts plan i)
        → Accepted plan parts n mark witness
    made_accepted closed witness low =
        closed_accepted mark agree_labelled
        (λ i l. sym (closing_same plan h_c (made_mark parts plan) mark i (below_same i l) v (parts i) (fits i l)) ∙ closed i l)
        witness (λ i l. low i l ∙ agree_witness i l)

  -- ---- a part that does not close

  own_witness : (i : ℕ) → made_witness parts plan i ≡ lowest_witness plan (made_mark parts plan) (parts i) i
  unfolding made_witness
  own_witness i = refl

  -- The marks of the parts below i, which close, are the truth at every position,
  pub lower_true : (i : ℕ) → i ≤ n → ((a : ℕ) → a < i → Closed a) → (a : ℕ) → a < i
      → TrueAt plan parts n (made_mark parts plan) a
      × T (witness_in_order (start_rows plan) (cycle_rows plan) (made_mark parts plan) (parts a) a (made_witness parts plan a))
  lower_true i h closed =
      below plan h_c parts v n fits (made_mark parts plan) (made_witness parts plan) i h
      (λ a l. closed_passes (made_mark parts plan) made_labelled a (omega arith) (closed a l) (own_witness a))

  -- What 10 of part i says then, by the marks made.
  pub open_says : (i : ℕ) → i < n → ((a : ℕ) → a < i → Closed a) → (r : Refusal) → closing_outcome plan (made_mark parts plan) (parts i) i ≡ Err r
      → (row : ℕ) × (Closing i row ≡ r) × ClosingMeans parts n plan (made_mark parts plan) (made_witness parts plan) i row
  open_says i l closed r e =
      closing_says plan h_c parts v n fits (made_mark parts plan) (made_witness parts plan) i l (lower_true i (omega arith) closed) r e

  -- It closes exactly where it is settled.
  pub closes_settled : (i : ℕ) → i < n → ((a : ℕ) → a < i → Closed a) → Closed i ↔ PartSettled parts plan i
  closes_settled i l closed =
      closing_settled plan h_c parts v n fits (made_mark parts plan) (made_witness parts plan) i l (lower_true i (omega arith) closed)

  -- And so are those of any table that is accepted: the two agree.
  pub agree : (mark other : ℕ → ℕ → Bool) (i : ℕ) → ((a : ℕ) → a < i → TrueAt plan parts n mark a) → ((a : ℕ) → a < i → TrueAt plan parts n other a)
      → SameBelow plan mark other i
  agree mark other i f g a l row q =
      T-ext (mark a row) (other a row)
      (subst (λ (r : ℕ). T (mark a r) ↔ T (other a r)) (first_position plan row q) (Iff.trans (f a l row) (Iff.symm (g a l row))))

  -- NOT MADE: where the lower parts close and part i does not, no marks are accepted with any witnesses.
  pub open_refuted : (i : ℕ) → i < n → ((a : ℕ) → a < i → Closed a) → ¬ Closed i
      → (mark : ℕ → ℕ → Bool) (witness : ℕ → ℕ) → Accepted plan parts n mark witness → ⊥
  unfolding part_outcome
  open_refuted i l closed opened mark witness h =
      opened (closing_same plan h_c (made_mark parts plan) mark i lower v (parts i) (fits i l) ∙ passed)
    where
      turns : (a : ℕ) → a < n → part_outcome plan mark (parts a) a (witness a) ≡ unrefused
      turns = (in_turn_clear (λ a. part_outcome plan mark (parts a) a (witness a)) n).0 h

      passed : closing_outcome plan mark (parts i) i ≡ unrefused
      passed =
          ((or_else_clear (closing_outcome plan mark (parts i) i) (equation_outcome plan mark (parts i) i or_else witness_outcome plan mark (parts i) i (witness i))).0 (turns i l)).0

      lower : SameBelow plan (made_mark parts plan) mark i
      lower =
          agree (made_mark parts plan) mark i (λ a q. (lower_true i (omega arith) closed a q).0)
          (λ a q. (below plan h_c parts v n fits mark witness n (omega arith) turns a (omega arith)).0)
