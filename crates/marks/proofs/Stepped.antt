-- The mark of an operator on a row, its truth there, and its closing, as the code comes to them. Assumes nothing.
use Prim.Native.Nat.{ℕ, suc, ◌+◌, ◌-◌, ◌≤◌, ◌<◌}
use native.Mathlib.Omega.{arith}
use mathlib.Core.Path.{◌≡◌, sym, ap, ap₂, ◌∙◌, subst}
use mathlib.Core.Bool.{Bool, true, beq}
use Rattle.cltlb.specs.Fits.{names_lower}
use Rattle.cltlb.specs.declared.Atom.{Atom}
use Rattle.cltlb.specs.declared.View.{View}
use Rattle.cltlb.specs.declared.View.TheVariants as view
use Rattle.cltlb.specs.declared.Unary.{Unary}
use Rattle.cltlb.specs.declared.Binary.{Binary}
use Rattle.cltlb.specs.declared.Operator.{Operator}
use Rattle.cltlb.specs.declared.Operator.TheVariants.{One, Two}
use Rattle.cltlb.proofs.Fits.{one_lower, two_lower}
use Rattle.plan.specs.Positions.{last, after}
use Rattle.marks.specs.declared.operators.Beside.{Beside}
use Rattle.marks.specs.declared.operators.Beside.TheVariants.{After, Before}
use Rattle.marks.specs.Equations.{beside_of, watched, mark_one, mark_two, step_on, watched_truth, mark_beside, operator_mark, expected}
use Rattle.marks.specs.Parts.{running, turns_round, closes_by, closes}
use Rattle.marks.specs.inner.Tables.{TruthMarked}

-- ---- the parts that an operator names, and the one that it watches, are there

module _ (n : ℕ) {o : Operator} (low : names_lower n o ≡ true) where
  pub one_named : {sort : Unary} {a : ℕ} → o ≡ One sort a → a < n
  one_named {sort} {a} e = one_lower n sort a (subst (λ (x : Operator). names_lower n x ≡ true) e low)

  pub two_named : {sort : Binary} {a b : ℕ} → o ≡ Two sort a b → (a < n) × (b < n)
  two_named {sort} {a} {b} e = two_lower n sort a b (subst (λ (x : Operator). names_lower n x ≡ true) e low)

pub watched_there : (n : ℕ) (o : Operator) → names_lower n o ≡ true → (i : ℕ) → i < n → {k : ℕ} → k ≡ watched o i → k < n
watched_there n (One sort a) low i l e = subst (λ (x : ℕ). x < n) (sym e) (one_lower n sort a low)
watched_there n (Two sort a b) low i l e = subst (λ (x : ℕ). x < n) (sym e) l

-- ---- the mark on a row by the mark beside

module _ (mark : ℕ → ℕ → Bool) (row : ℕ) (beside : Bool) {o : Operator} where
  pub step_one : {sort : Unary} {a : ℕ} {x r : Bool} → o ≡ One sort a → x ≡ mark a row → r ≡ mark_one sort x beside → r ≡ step_on mark o row beside
  step_one {sort} e d h = h ∙ ap (λ (x : Bool). mark_one sort x beside) d ∙ sym (ap (λ (x : Operator). step_on mark x row beside) e)

  pub step_two : {sort : Binary} {a b : ℕ} {x y r : Bool} → o ≡ Two sort a b → x ≡ mark a row → y ≡ mark b row → r ≡ mark_two sort x y beside
      → r ≡ step_on mark o row beside
  step_two {sort} e d f h = h ∙ ap₂ (λ (x y : Bool). mark_two sort x y beside) d f ∙ sym (ap (λ (x : Operator). step_on mark x row beside) e)

-- ---- the mark beside

module _ (P C : ℕ) (m : ℕ → Bool) (row : ℕ) {side : Beside} where
  pub beside_after : {x : ℕ} {r : Bool} → side ≡ After → x ≡ after P C row → r ≡ m x → r ≡ mark_beside P C side m row
  unfolding mark_beside
  beside_after e d h = h ∙ ap m d ∙ sym (ap (λ (s : Beside). mark_beside P C s m row) e)

  pub beside_first : {first : Bool} → side ≡ Before first → row ≡ 0 → first ≡ mark_beside P C side m row
  unfolding mark_beside
  beside_first e d = sym (ap₂ (λ (s : Beside) (k : ℕ). mark_beside P C s m k) e d)

  pub beside_before : {first r : Bool} → side ≡ Before first → ¬ (row ≡ 0) → r ≡ m (row - 1) → r ≡ mark_beside P C side m row
  unfolding mark_beside
  beside_before {first} e d h =
      let above : row ≡ suc (row - 1) = omega arith in
      h ∙ sym (ap₂ (λ (s : Beside) (k : ℕ). mark_beside P C s m k) e above)

-- ---- the mark that the operator has to have

module _ (P C : ℕ) (mark : ℕ → ℕ → Bool) (o : Operator) (i row : ℕ) where
  pub operator_marked : {side : Beside} {k : ℕ} {x r : Bool} → side ≡ beside_of o → k ≡ watched o i → x ≡ mark_beside P C side (mark k) row
      → r ≡ step_on mark o row x → r ≡ operator_mark P C mark o i row
  unfolding operator_mark
  operator_marked e d f h =
      h ∙ ap (step_on mark o row) (f ∙ ap₂ (λ (s : Beside) (k : ℕ). mark_beside P C s (mark k) row) e d)

-- ---- by the view

module _ (P C : ℕ) (mark : ℕ → ℕ → Bool) (atoms : Atom → ℕ → Bool) (i row : ℕ) {p : View} {r : Bool} where
  pub atom_expected : {x : Atom} → p ≡ view.Atom x → r ≡ atoms x row → r ≡ expected P C mark atoms p i row
  unfolding expected
  atom_expected e h = rw e h

  pub operator_expected : {o : Operator} → p ≡ view.Operator o → r ≡ operator_mark P C mark o i row → r ≡ expected P C mark atoms p i row
  unfolding expected
  operator_expected e h = rw e h

-- ---- its truth, row after row, where it looks back

module _ (mark : ℕ → ℕ → Bool) (own : Bool) (row : ℕ) {o : Operator} where
  pub sees_named : {sort : Unary} {a : ℕ} {r : Bool} → o ≡ One sort a → r ≡ mark a row → r ≡ watched_truth mark o own row
  sees_named e h = h ∙ sym (ap (λ (x : Operator). watched_truth mark x own row) e)

module _ (mark : ℕ → ℕ → Bool) (o : Operator) (first : Bool) where
  pub first_truth : {r : Bool} → r ≡ step_on mark o 0 first → r ≡ running mark o first 0
  unfolding running
  first_truth h = h

  pub next_truth : (row : ℕ) {own seen r : Bool} → own ≡ running mark o first row → seen ≡ watched_truth mark o own row → r ≡ step_on mark o (row + 1) seen
      → r ≡ running mark o first (row + 1)
  unfolding running
  next_truth row {own} {seen} {r} d e h =
      let one_on : row + 1 ≡ suc row = omega arith in
      h ∙ ap₂ (step_on mark o) one_on (e ∙ ap (λ (x : Bool). watched_truth mark o x row) d) ∙ ap (running mark o first) (sym one_on)

  pub last_truth : {row at : ℕ} {r : Bool} → at ≤ row → row ≤ at → r ≡ running mark o first at → r ≡ running mark o first row
  last_truth {row} {at} h g e = let there : at ≡ row = omega arith in e ∙ ap (running mark o first) there

-- ---- closing

module _ (P C : ℕ) (mark : ℕ → ℕ → Bool) (o : Operator) where
  pub turned : (start end : Bool) {seen step r : Bool} → seen ≡ watched_truth mark o end (P + C - 1) → step ≡ step_on mark o P seen → r ≡ beq start step
      → r ≡ turns_round P C mark o start end
  unfolding last
  turned start end d e h = h ∙ ap (beq start) (e ∙ ap (step_on mark o P) d)

  pub ahead_closes : beside_of o ≡ After → true ≡ closes P C mark o
  unfolding closes closes_by
  ahead_closes s = ap (λ (s : Beside). closes_by P C mark s o) (sym s)

  pub back_closes : {first start end r : Bool} → beside_of o ≡ Before first → start ≡ running mark o first P → end ≡ running mark o first (P + C - 1)
      → r ≡ turns_round P C mark o start end → r ≡ closes P C mark o
  unfolding closes closes_by last
  back_closes s d e h =
      h ∙ ap₂ (λ (x y : Bool). beq x (step_on mark o P (watched_truth mark o y (P + C - 1)))) d e ∙ ap (λ (s : Beside). closes_by P C mark s o) (sym s)

  -- where its marks are its truth
  pub made_closes : 1 ≤ C → {i : ℕ} → TruthMarked P C mark o i → {first start end r : Bool} → beside_of o ≡ Before first → start ≡ mark i P → end ≡ mark i (P + C - 1)
      → r ≡ turns_round P C mark o start end → r ≡ closes P C mark o
  made_closes h_c truth {first} s d e = back_closes s (d ∙ truth first s P (omega arith)) (e ∙ truth first s (P + C - 1) (omega arith))
