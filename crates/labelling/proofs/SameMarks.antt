-- What is made of a part, whether it closes and its witness hang on the marks on the rows of lower parts, and the witness on those
-- of the part as well. Assumes nothing.
use mathlib.Core.Path.{◌≡◌, refl, ap, ap₂, ◌∙◌}
use mathlib.Core.Bool.{Bool, true, cond, not, ◌&&◌, beq}
use mathlib.Core.List.{List}
use Prim.Native.Nat.{ℕ, zero, suc, ◌+◌, ◌-◌, ◌≤◌, ◌<◌}
use native.Mathlib.Omega.{arith}
use lib.Dec.{eqb}
use Rattle.cltlb.specs.Fits.{names_lower, view_fits}
use Rattle.cltlb.specs.declared.Binary.{Binary}
use Rattle.cltlb.specs.declared.Binary.TheVariants.{And, Or, Until, Release, Since, Trigger}
use Rattle.cltlb.specs.declared.Operator.{Operator}
use Rattle.cltlb.specs.declared.Operator.TheVariants.{One, Two}
use Rattle.cltlb.specs.declared.View.{View}
use Rattle.cltlb.specs.declared.View.TheVariants as view
use Rattle.cltlb.proofs.Fits.{operator_fits, one_lower, two_lower}
use Rattle.refusal.specs.First.{unless}
use Rattle.refusal.specs.declared.Refusal.TheVariants.{Closing}
use Rattle.refusal.proofs.Lowest.{from_ext}
use Rattle.plan.specs.Layout.{start_rows, cycle_rows, rows}
use Rattle.plan.specs.Positions.{after}
use Rattle.marks.specs.declared.operators.Beside.{Beside}
use Rattle.marks.specs.declared.operators.Beside.TheVariants.{After, Before}
use Rattle.marks.specs.Equations.{beside_of, mark_one, mark_two, step_on, watched_truth}
use Rattle.marks.specs.Parts.{no_witness, is_cycle_row, names, witness_two, witness_of_operator, witness_in_order, running, closes_by, closes, closing_outcome}
use Rattle.marks.proofs.Rows.{last_row, last_is_row, after_is_row}
use Rattle.labelling.specs.Labels.{following, label_by, operator_label, label_of, or_none, lowest_witness}

-- Two tables whose marks of the parts below i agree on the rows.
abbrev pub SameBelow : List ℕ → (ℕ → ℕ → Bool) → (ℕ → ℕ → Bool) → ℕ → Type 0
SameBelow plan mark other i = (a : ℕ) → a < i → (row : ℕ) → row < rows plan → mark a row ≡ other a row

module _ (plan : List ℕ) (h_c : 1 ≤ cycle_rows plan) (mark other : ℕ → ℕ → Bool) (i : ℕ) (same : SameBelow plan mark other i) where
  abbrev P : ℕ
  P = start_rows plan

  abbrev C : ℕ
  C = cycle_rows plan

  module _ (o : Operator) (names : names_lower i o ≡ true) where
    step_same : (row beside : ℕ) {x y : Bool} → row < rows plan → beside < rows plan → x ≡ y
        → step_on mark o row (watched_truth mark o x beside) ≡ step_on other o row (watched_truth other o y beside)
    step_same = go o names
      where
        go : (o : Operator) → names_lower i o ≡ true → (row beside : ℕ) {x y : Bool} → row < rows plan → beside < rows plan → x ≡ y
            → step_on mark o row (watched_truth mark o x beside) ≡ step_on other o row (watched_truth other o y beside)
        go (One s a) f row beside l q e = let low = one_lower i s a f in ap₂ (mark_one s) (same a low row l) (same a low beside q)
        go (Two s a b) f row beside {x} {y} l q e =
            let low = two_lower i s a b f in
            ap₂ (λ u v. mark_two s u v x) (same a low.0 row l) (same b low.1 row l) ∙ ap (mark_two s (other a row) (other b row)) e

    -- before row 0 a mark counts, whatever the marks are
    first_same : (row : ℕ) (x : Bool) → row < rows plan → step_on mark o row x ≡ step_on other o row x
    first_same = go o names
      where
        go : (o : Operator) → names_lower i o ≡ true → (row : ℕ) (x : Bool) → row < rows plan → step_on mark o row x ≡ step_on other o row x
        go (One s a) f row x l = ap (λ u. mark_one s u x) (same a (one_lower i s a f) row l)
        go (Two s a b) f row x l = let low = two_lower i s a b f in ap₂ (λ u v. mark_two s u v x) (same a low.0 row l) (same b low.1 row l)

    following_same : (k row : ℕ) → row < rows plan → following P C mark o k row ≡ following P C other o k row
    unfolding following
    following_same zero row l = refl
    following_same (suc k) row l =
        let next = after_is_row plan h_c row l in step_same row (after P C row) l next (following_same k (after P C row) next)

    running_same : (first : Bool) (row : ℕ) → row < rows plan → running mark o first row ≡ running other o first row
    unfolding running
    running_same first zero l = first_same 0 first l
    running_same first (suc row) l = let q : row < rows plan = omega arith in step_same (suc row) row l q (running_same first row q)

    by_same : (s : Beside) (row : ℕ) → row < rows plan → label_by P C mark s o row ≡ label_by P C other s o row
    unfolding label_by
    by_same After row l = following_same (P + C - row + C) row l
    by_same (Before first) row l = running_same first row l

    start_is_row : P < rows plan
    unfolding rows
    start_is_row = omega arith

    closes_same : closes P C mark o ≡ closes P C other o
    unfolding closes closes_by
    closes_same = go (beside_of o)
      where
        go : (s : Beside) → closes_by P C mark s o ≡ closes_by P C other s o
        go After = refl
        go (Before first) =
            ap₂ beq (running_same first P start_is_row)
            (step_same P (last_row plan) start_is_row (last_is_row plan h_c) (running_same first (last_row plan) (last_is_row plan h_c)))

  -- The mark made of part i.
  pub label_same : (v : ℕ) (p : View) → view_fits v i p ≡ true → (row : ℕ) → row < rows plan → label_of plan mark p row ≡ label_of plan other p row
  unfolding label_of operator_label
  label_same v (view.Atom x) fits row l = refl
  label_same v (view.Operator o) fits row l = by_same o (operator_fits v i o fits) (beside_of o) row l

  -- Whether it closes.
  pub closing_same : (v : ℕ) (p : View) → view_fits v i p ≡ true → closing_outcome plan mark p i ≡ closing_outcome plan other p i
  unfolding closing_outcome
  closing_same v (view.Atom x) fits = refl
  closing_same v (view.Operator o) fits = ap (λ (b : Bool). unless b (Closing i P)) (closes_same o (operator_fits v i o fits))

module _ (plan : List ℕ) (h_c : 1 ≤ cycle_rows plan) (mark other : ℕ → ℕ → Bool) (i : ℕ) (same : SameBelow plan mark other (suc i)) where
  in_order_same : (v : ℕ) (p : View) → view_fits v i p ≡ true → (w : ℕ) → w < rows plan
      → witness_in_order (start_rows plan) (cycle_rows plan) mark p i w ≡ witness_in_order (start_rows plan) (cycle_rows plan) other p i w
  unfolding witness_in_order witness_of_operator witness_two names
  in_order_same v (view.Atom x) fits w l = refl
  in_order_same v (view.Operator (One s a)) fits w l = refl
  in_order_same v (view.Operator (Two s a b)) fits w l =
      let low = (two_lower i s a b (operator_fits v i (Two s a b) fits)).1 in
      two s (same i (omega arith) (last_row plan) (last_is_row plan h_c)) (same b (omega arith) w l)
    where
      two : (s : Binary) {x y : Bool} → x ≡ y → mark b w ≡ other b w
          → witness_two (start_rows plan) (cycle_rows plan) s x (mark b) w ≡ witness_two (start_rows plan) (cycle_rows plan) s y (other b) w
      two And d e = refl
      two Or d e = refl
      two Since d e = refl
      two Trigger d e = refl
      two Until d e = ap₂ (λ u z. cond u (is_cycle_row (start_rows plan) (cycle_rows plan) w && z) (eqb w no_witness)) d e
      two Release d e = ap₂ (λ u z. cond u (eqb w no_witness) (is_cycle_row (start_rows plan) (cycle_rows plan) w && not z)) d e

  -- The lowest witness of part i.
  pub witness_same : (v : ℕ) (p : View) → view_fits v i p ≡ true → lowest_witness plan mark p i ≡ lowest_witness plan other p i
  unfolding lowest_witness rows
  witness_same v p fits = ap or_none (from_ext _ _ (start_rows plan) (cycle_rows plan) (λ w _ l. in_order_same v p fits w l))
