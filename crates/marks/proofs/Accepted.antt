-- Demand 3: a mark table is accepted exactly where every part has on each cycle row the same published truth on all passes,
-- every mark is the truth at its row's first position, and every witness is in order. Assumes nothing.
use Rattle.refusal.specs.Outcome.{unrefused}
use mathlib.Core.Path.{◌≡◌, sym, ap, subst⁻¹}
use mathlib.Core.Bool.{Bool, true}
use mathlib.Core.List.{List}
use mathlib.Core.Logic.Iff
use mathlib.Core.Logic.{◌↔◌, by_cases}
use Prim.Native.Nat.{ℕ, zero, suc, ◌+◌, ◌*◌, ◌-◌, ◌≤◌, ◌<◌}
use native.Mathlib.Nat.{not-suc-le-zero}
use native.Mathlib.Decide.{dec_lt}
use native.Mathlib.Omega.{arith}
use lib.Dec.{T}
use Rattle.cltlb.specs.Parts.{formula_of}
use Rattle.cltlb.specs.Fits.{view_fits}
use Rattle.cltlb.specs.declared.View.{View}
use Rattle.cltlb.proofs.Depth.{formula_made}
use Rattle.refusal.specs.First.{in_turn}
use Rattle.refusal.proofs.First.{in_turn_clear}
use Rattle.plan.specs.Layout.{start_rows, cycle_rows, rows}
use Rattle.plan.specs.Positions.{pass_of}
use Rattle.marks.specs.Parts.{witness_in_order, closing_outcome, equation_outcome, part_outcome}
use Rattle.marks.specs.Meaning.{Truth, SameOn, PartSettled, MarkTrue, PartMarksTrue, PartWitnessed, Settled, MarksTrue, WitnessesInOrder}
use Rattle.marks.proofs.Tests.{T-path, T-ext}
use Rattle.marks.proofs.Rows.{row_at, first_position, start_row, from_start, is_row, row_0, again, row_and_pass}
use Rattle.marks.proofs.Endless.{Agrees, mark_at}
use Rattle.marks.proofs.Parts.{right_served, passed_right, part_accepted}

module _ (plan : List ℕ) (parts : ℕ → View) (n : ℕ) (mark : ℕ → ℕ → Bool) where
  -- The marks of part i are its published truth at every position.
  abbrev pub TrueAt : ℕ → Type 0
  TrueAt i = Agrees (mark_at plan mark i) (Truth parts plan i)

  abbrev pub TrueEverywhere : Type 0
  TrueEverywhere = (i : ℕ) → i < n → TrueAt i

  -- Refusals 9 to 11 turn nothing away.
  abbrev pub Accepted : (ℕ → ℕ) → Type 0
  Accepted witness = in_turn (λ i. part_outcome plan mark (parts i) i (witness i)) n ≡ unrefused

module _ (plan : List ℕ) (h_c : 1 ≤ cycle_rows plan) (parts : ℕ → View) (n : ℕ) (mark : ℕ → ℕ → Bool) where
  -- Where the marks of a part are its truth at every position, the part is settled and its marks are true on the rows.
  pub true_settled : (i : ℕ) → TrueAt plan parts n mark i → PartSettled parts plan i
  unfolding PartSettled SameOn
  true_settled i h row low high k =
      Iff.trans (Iff.symm (h row)) (Iff.trans (T-path (ap (mark i) (sym (again plan h_c row k low)))) (h (row + k * cycle_rows plan)))

  pub true_marks : (i : ℕ) → TrueAt plan parts n mark i → PartMarksTrue parts plan i mark
  unfolding PartMarksTrue MarkTrue
  true_marks i h row high = Iff.trans (T-path (ap (mark i) (sym (first_position plan row high)))) (h row)

  -- Where the part is settled and its marks are true on the rows, they are its truth at every position.
  pub settled_true : (i : ℕ) → PartSettled parts plan i → PartMarksTrue parts plan i mark → TrueAt plan parts n mark i
  unfolding PartSettled SameOn PartMarksTrue MarkTrue
  settled_true i settled marks t =
      Iff.trans (marks row (is_row plan h_c t)) (by_cases (dec_lt t (start_rows plan)) start (λ q. cycle (omega arith)))
    where
      row : ℕ
      row = row_at plan t

      start : t < start_rows plan → Truth parts plan i row ↔ Truth parts plan i t
      start q = subst⁻¹ (λ (x : ℕ). Truth parts plan i x ↔ Truth parts plan i t) (start_row plan t q) Iff.rfl

      cycle : start_rows plan ≤ t → Truth parts plan i row ↔ Truth parts plan i t
      cycle q =
          subst⁻¹ (λ (x : ℕ). Truth parts plan i row ↔ Truth parts plan i x) (row_and_pass plan h_c t q)
          (settled row (from_start plan t q) (is_row plan h_c t) (pass_of (start_rows plan) (cycle_rows plan) t))

  -- The marks are the truth at every position exactly where the parts are settled and the marks are true on the rows.
  pub everywhere_iff : TrueEverywhere plan parts n mark ↔ (Settled parts n plan × MarksTrue parts n plan mark)
  unfolding Settled MarksTrue
  everywhere_iff = (λ h. (λ i l. true_settled i (h i l), λ i l. true_marks i (h i l)), λ p i l. settled_true i (p.0 i l) (p.1 i l))

-- What refusals 1 to 3 clear of the parts: they fit, with v channels.
module _ (plan : List ℕ) (h_c : 1 ≤ cycle_rows plan) (parts : ℕ → View) (v n : ℕ)
    (fits : (i : ℕ) → i < n → view_fits v i (parts i) ≡ true) where
  -- One part, where the marks of the lower ones are the truth: where it passes 10 and 9, its own are the truth if some number is in order
  -- as its witness, and where they are the truth, some number is.
  module _ (mark : ℕ → ℕ → Bool) (i : ℕ) (l : i < n) (named : (a : ℕ) → a < i → TrueAt plan parts n mark a) where
    pub passed_true : closing_outcome plan mark (parts i) i ≡ unrefused → equation_outcome plan mark (parts i) i ≡ unrefused → (w : ℕ)
        → T (witness_in_order (start_rows plan) (cycle_rows plan) mark (parts i) i w) → TrueAt plan parts n mark i
    unfolding Truth
    passed_true closes met w ok =
        rw (formula_made parts v n fits i l) (passed_right plan mark (formula_of parts) h_c i named v (parts i) w (fits i l) closes met ok)

    pub true_served : TrueAt plan parts n mark i → (w : ℕ) × T (witness_in_order (start_rows plan) (cycle_rows plan) mark (parts i) i w)
    unfolding Truth
    true_served = rw (formula_made parts v n fits i l) (right_served plan mark (formula_of parts) h_c i named v (parts i) (fits i l))

  module _ (mark : ℕ → ℕ → Bool) (witness : ℕ → ℕ) where
    -- One part, where the marks of the lower ones are the truth.
    one : (i : ℕ) → i < n → ((a : ℕ) → a < i → TrueAt plan parts n mark a)
        → (part_outcome plan mark (parts i) i (witness i) ≡ unrefused) ↔ (TrueAt plan parts n mark i × T (witness_in_order (start_rows plan) (cycle_rows plan) mark (parts i) i (witness i)))
    unfolding Truth
    one i l named =
        rw (formula_made parts v n fits i l) (part_accepted plan mark (formula_of parts) h_c i named v (parts i) (witness i) (fits i l))

    -- The parts below m, where none of them is refused.
    pub below : (m : ℕ) → m ≤ n → ((i : ℕ) → i < m → part_outcome plan mark (parts i) i (witness i) ≡ unrefused) → (i : ℕ) → i < m
        → TrueAt plan parts n mark i × T (witness_in_order (start_rows plan) (cycle_rows plan) mark (parts i) i (witness i))
    below zero few clear i l = absurd (not-suc-le-zero l)
    below (suc m) few clear i l =
        let lower = below m (omega arith) (λ a q. clear a (omega arith)) in
        (one i (omega arith) (λ a q. (lower a (omega arith)).0)).0 (clear i l)

    -- A table is accepted exactly where its marks are the truth at every position and its witnesses are in order.
    pub accepted_everywhere : Accepted plan parts n mark witness ↔ (TrueEverywhere plan parts n mark × WitnessesInOrder parts n plan mark witness)
    unfolding WitnessesInOrder PartWitnessed
    accepted_everywhere = Iff.trans (in_turn_clear (λ i. part_outcome plan mark (parts i) i (witness i)) n) (
      λ clear. let right = below n (omega arith) clear in (λ i l. (right i l).0, λ i l. (right i l).1),
      λ p i l. (one i l (λ a q. p.0 a (omega arith))).1 (p.0 i l, p.1 i l),
    )

    -- An accepted table: the parts are settled, its marks are true, its witnesses are in order.
    pub accepted_means : Accepted plan parts n mark witness
        → Settled parts n plan × MarksTrue parts n plan mark × WitnessesInOrder parts n plan mark witness
    accepted_means h =
        let p = accepted_everywhere.0 h in
        let q = (everywhere_iff plan h_c parts n mark).0 p.0 in
        (q.0, q.1, p.1)

    -- A table of which this is so is accepted.
    pub true_accepted : Settled parts n plan × MarksTrue parts n plan mark × WitnessesInOrder parts n plan mark witness
        → Accepted plan parts n mark witness
    true_accepted p = accepted_everywhere.1 ((everywhere_iff plan h_c parts n mark).1 (p.0, p.1), p.2)

    -- The mark of the last part on row 0 is the whole rule's truth at position 0.
    pub accepted_verdict : 1 ≤ n → Accepted plan parts n mark witness → T (mark (n - 1) 0) ↔ Truth parts plan (n - 1) 0
    unfolding MarksTrue PartMarksTrue MarkTrue
    accepted_verdict some h = (accepted_means h).1 (n - 1) (omega arith) 0 (row_0 plan h_c)

  -- The accepted table is unique but for witnesses.
  pub accepted_unique : (mark other : ℕ → ℕ → Bool) (witness others : ℕ → ℕ) → Accepted plan parts n mark witness → Accepted plan parts n other others
      → (i row : ℕ) → i < n → row < rows plan → mark i row ≡ other i row
  unfolding MarksTrue PartMarksTrue MarkTrue
  accepted_unique mark other witness others h k i row l q =
      T-ext (mark i row) (other i row) (Iff.trans ((accepted_means mark witness h).1 i l row q) (Iff.symm ((accepted_means other others k).1 i l row q)))
