-- Refusals 10, 9 and 11 of a table say of the published truth what marks/specs/RefusalMeaning states. Assumes nothing.
use Rattle.std.specs.Prelude.{Ok, Err}
use mathlib.Core.Path.{◌≡◌, refl, sym, ap, ◌∙◌, subst}
use mathlib.Core.Bool.{Bool, true}
use mathlib.Core.List.{List}
use mathlib.Core.Logic.{◌↔◌, ⊎_elim}
use Prim.Native.Nat.{ℕ, ◌≤◌, ◌<◌}
use lib.Dec.{T}
use Rattle.cltlb.specs.Parts.{formula_of}
use Rattle.cltlb.specs.Fits.{view_fits}
use Rattle.cltlb.specs.Views.{two_view}
use Rattle.cltlb.specs.declared.Binary.TheVariants.{Until, Release}
use Rattle.cltlb.specs.declared.View.{View}
use Rattle.cltlb.proofs.Depth.{formula_made}
use Rattle.refusal.specs.First.{◌or_else◌, unless}
use Rattle.refusal.specs.declared.Refusal.{Refusal}
use Rattle.refusal.specs.declared.Refusal.TheVariants.{RuleSizes, Kind, Operand, PlanSizes, Channels, StartDrift, MarkSizes, MarkByte, Equation, Closing, Witness, Absent, BufferLength, NoTable, NoLayout, Unwatchable, Unfitting}
use Rattle.refusal.specs.Outcome.{Outcome, unrefused}
use Rattle.refusal.proofs.First.{unless_refused_lem, unless_clear_t, or_else_refused, clear_refused}
use Rattle.plan.specs.Layout.{start_rows, cycle_rows, rows}
use Rattle.plan.specs.Positions.{after}
use Rattle.marks.specs.Parts.{closes_by, closes, witness_in_order, equation_outcome, closing_outcome, witness_outcome, part_outcome}
use Rattle.marks.specs.Meaning.{Truth, SameOn, DiffersOn, PartSettled, MarkTrue, PartMarksTrue, PartWitnessed}
use Rattle.marks.specs.RefusalMeaning.{FirstFault, EquationMeans, ClosingMeans, WitnessMeans}
use Rattle.marks.proofs.Rows.{after_is_row}
use Rattle.marks.proofs.Parts.{Ahead}
use Rattle.marks.proofs.Faults.{met_open, equation_broken}
use Rattle.marks.proofs.ByTruth.{Open, closing_open, closing_repeats}
use Rattle.marks.proofs.Repeating.{same_differs, settled_repeats}
use Rattle.marks.proofs.Accepted.{TrueAt, true_settled, true_marks, settled_true, passed_true, true_served}

module _ (plan : List ℕ) (parts : ℕ → View) (n : ℕ) (mark : ℕ → ℕ → Bool) (witness : ℕ → ℕ) where
  -- what a refusal of the table says, by its number
  unfoldable pub Means : Refusal → Type 0
  Means RuleSizes = Unit {0}
  Means (Kind i) = Unit {0}
  Means (Operand i) = Unit {0}
  Means PlanSizes = Unit {0}
  Means Channels = Unit {0}
  Means (StartDrift row) = Unit {0}
  Means MarkSizes = Unit {0}
  Means (MarkByte i row) = Unit {0}
  Means (Equation i row) = EquationMeans parts n plan mark witness i row
  Means (Closing i row) = ClosingMeans parts n plan mark witness i row
  Means (Witness i) = WitnessMeans parts n plan mark witness i
  Means Absent = Unit {0}
  Means BufferLength = Unit {0}
  Means (NoTable i row) = Unit {0}
  Means NoLayout = Unit {0}
  Means Unwatchable = Unit {0}
  Means Unfitting = Unit {0}

module _ (plan : List ℕ) (h_c : 1 ≤ cycle_rows plan) (parts : ℕ → View) (v n : ℕ)
    (fits : (i : ℕ) → i < n → view_fits v i (parts i) ≡ true) (mark : ℕ → ℕ → Bool) (witness : ℕ → ℕ) where
  module _ (i : ℕ) (l : i < n) (lower : (a : ℕ) → a < i → TrueAt plan parts n mark a × T (witness_in_order (start_rows plan) (cycle_rows plan) mark (parts a) a (witness a))) where
    first_fault : FirstFault parts n plan mark witness i
    unfolding PartWitnessed
    first_fault = record {
      present = l;
      lower = λ a q. record {
        settled = true_settled plan h_c parts n mark a (lower a q).0;
        marks = true_marks plan h_c parts n mark a (lower a q).0;
        witnessed = (lower a q).1;
      };
    }

    broken : (r : Refusal) → equation_outcome plan mark (parts i) i ≡ Err r
        → (row : ℕ) × (Equation i row ≡ r) × (row < rows plan) × (¬ Ahead plan mark (formula_of parts) (parts i) → ¬ MarkTrue parts plan i mark row)
        × (¬ (MarkTrue parts plan i mark row × MarkTrue parts plan i mark (after (start_rows plan) (cycle_rows plan) row)))
        × (¬ Ahead plan mark (formula_of parts) (parts i) → (q : ℕ) → q < row → MarkTrue parts plan i mark q)
    unfolding MarkTrue Truth
    broken r e =
        rw (formula_made parts v n fits i l)
        (equation_broken plan mark (formula_of parts) h_c i (λ a q. (lower a q).0) v (parts i) (fits i l) r e)

    opened : (r : Refusal) → closing_outcome plan mark (parts i) i ≡ Err r → Open plan (Truth parts plan i) (parts i) i r
    unfolding Truth DiffersOn SameOn
    opened r e =
        rw (formula_made parts v n fits i l)
        (closing_open plan mark (formula_of parts) h_c i (λ a q. (lower a q).0) v (parts i) (fits i l) r e)

    closed : closing_outcome plan mark (parts i) i ≡ unrefused → PartSettled parts plan i
    unfolding Truth
    closed e =
        (settled_repeats parts plan h_c i).1
        (rw (formula_made parts v n fits i l)
        (closing_repeats plan mark (formula_of parts) h_c i (λ a q. (lower a q).0) v (parts i) (fits i l) e))

    -- CLOSING IS BEING SETTLED: a part closes exactly where it has, on each cycle row, the same published truth on all passes.
    pub closing_settled : (closing_outcome plan mark (parts i) i ≡ unrefused) ↔ PartSettled parts plan i
    unfolding PartSettled
    closing_settled = (closed, λ s. go s (closing_outcome plan mark (parts i) i) refl)
      where
        go : PartSettled parts plan i → (o : Outcome) → closing_outcome plan mark (parts i) i ≡ o → o ≡ unrefused
        go s (Ok _) e = refl
        go s (Err r) e = let d = opened r e in absurd (same_differs plan (Truth parts plan i) d.0 (s d.0 d.2 d.3) d.4)

    -- 9 names part i and a row, and says that its marks are not all true,
    pub equation_says : (r : Refusal) → equation_outcome plan mark (parts i) i ≡ Err r → (row : ℕ) × (Equation i row ≡ r) × (¬ PartMarksTrue parts plan i mark)
    unfolding PartMarksTrue
    equation_says r e =
        let s = broken r e in
        (s.0, s.1, λ all. s.4 (all s.0 s.2, all (after (start_rows plan) (cycle_rows plan) s.0) (after_is_row plan h_c s.0 s.2)))

    -- and of a part that does not close, which is none of U and R, that the one on that row is false;
    pub broken_open : (r q : Refusal) → equation_outcome plan mark (parts i) i ≡ Err r → closing_outcome plan mark (parts i) i ≡ Err q
        → (row : ℕ) × (Equation i row ≡ r) × (row < rows plan) × (¬ MarkTrue parts plan i mark row)
    unfolding closing_outcome closes closes_by unless
    broken_open r q d e =
        let s = broken r d in
        let ahead_closes : (p : View) → parts i ≡ p → closing_outcome plan mark p i ≡ unrefused → ⊥ =
        λ p f c. clear_refused (sym e ∙ ap (λ (p : View). closing_outcome plan mark p i) f ∙ c) in
        (s.0, s.1, s.2, s.3 (⊎_elim (λ u. ahead_closes _ u.2 refl) (λ u. ahead_closes _ u.2 refl)))

    -- where it says nothing of such a part, all of them are true.
    pub open_marks : equation_outcome plan mark (parts i) i ≡ unrefused → (r : Refusal) → closing_outcome plan mark (parts i) i ≡ Err r → PartMarksTrue parts plan i mark
    unfolding PartMarksTrue MarkTrue Truth
    open_marks met r e =
        rw (formula_made parts v n fits i l)
        (met_open plan mark (formula_of parts) h_c i (λ a q. (lower a q).0) v (parts i) (fits i l) met r e)

    equation_means : closing_outcome plan mark (parts i) i ≡ unrefused → (r : Refusal) → equation_outcome plan mark (parts i) i ≡ Err r → Means plan parts n mark witness r
    unfolding Means
    equation_means closes r e =
        let s = broken r e in
        subst (Means plan parts n mark witness) s.1 (record {
          fault = first_fault;
          settled = closed closes;
          row_there = s.2;
          not-true = (equation_says r e).2;
          false_here = λ no_until no_release. s.3 (neither no_until no_release);
          lowest = λ no_until no_release. s.5 (neither no_until no_release);
          false_beside = s.4;
        })
      where
        neither : ((a b : ℕ) → ¬ (parts i ≡ two_view Until a b)) → ((a b : ℕ) → ¬ (parts i ≡ two_view Release a b)) → ¬ Ahead plan mark (formula_of parts) (parts i)
        neither no_until no_release = ⊎_elim (λ u. no_until u.0 u.1 u.2) (λ u. no_release u.0 u.1 u.2)

    -- 10 names part i and a row, of which it says what the definition states
    pub closing_says : (r : Refusal) → closing_outcome plan mark (parts i) i ≡ Err r
        → (row : ℕ) × (Closing i row ≡ r) × ClosingMeans parts n plan mark witness i row
    closing_says r e =
        let s = opened r e in
        (s.0, s.1, record { fault = first_fault; in_cycle = (s.2, s.3); differs = s.4; lowest = s.5; at_start = s.6 })

    closing_means : (r : Refusal) → closing_outcome plan mark (parts i) i ≡ Err r → Means plan parts n mark witness r
    unfolding Means
    closing_means r e = let s = closing_says r e in subst (Means plan parts n mark witness) s.1 s.2

    -- Of a part that passes 10 and 9 some number is in order as its witness exactly where its marks are true.
    served : closing_outcome plan mark (parts i) i ≡ unrefused → equation_outcome plan mark (parts i) i ≡ unrefused
        → ((w : ℕ) × T (witness_in_order (start_rows plan) (cycle_rows plan) mark (parts i) i w)) ↔ PartMarksTrue parts plan i mark
    served closes met = (
      λ s. true_marks plan h_c parts n mark i (passed_true plan h_c parts v n fits mark i l (λ a q. (lower a q).0) closes met s.0 s.1),
      λ all. true_served plan h_c parts v n fits mark i l (λ a q. (lower a q).0) (settled_true plan h_c parts n mark i (closed closes) all),
    )

    witness_means : closing_outcome plan mark (parts i) i ≡ unrefused → equation_outcome plan mark (parts i) i ≡ unrefused
        → (r : Refusal) → witness_outcome plan mark (parts i) i (witness i) ≡ Err r → Means plan parts n mark witness r
    unfolding Means witness_outcome PartWitnessed
    witness_means closes met r e =
        let test = witness_in_order (start_rows plan) (cycle_rows plan) mark (parts i) i (witness i) in
        subst (Means plan parts n mark witness) (unless_refused_lem test (Witness i) r e).1
        (record {
          fault = first_fault;
          settled = closed closes;
          not_in_order = λ ok. clear_refused (sym e ∙ (unless_clear_t test (Witness i)).1 ok);
          serves = served closes met;
        })

    pub part_means : (r : Refusal) → part_outcome plan mark (parts i) i (witness i) ≡ Err r → Means plan parts n mark witness r
    unfolding part_outcome
    part_means r e =
        ⊎_elim (closing_means r)
        (λ h. ⊎_elim (equation_means h.0 r) (λ k. witness_means h.0 k.0 r k.1)
        (or_else_refused (equation_outcome plan mark (parts i) i) (witness_outcome plan mark (parts i) i (witness i)) r h.1))
        (or_else_refused (closing_outcome plan mark (parts i) i) (equation_outcome plan mark (parts i) i or_else witness_outcome plan mark (parts i) i (witness i)) r e)
