-- The equations of operators on all rows, as the sweeps make them. Assumes nothing.
use Prim.Native.Nat.{ℕ, suc, ◌+◌, ◌*◌, ◌-◌, ◌≤◌, ◌<◌}
use native.Mathlib.Omega.{arith}
use mathlib.Core.Path.{◌≡◌, refl, sym, ap, ap₂, ◌∙◌, subst}
use mathlib.Core.Bool.{Bool, true, false, not, ◌&&◌, ◌||◌, beq, and_self, or_self, and_comm, or_comm, and-true}
use mathlib.Core.List.{List}
use lib.Dec.{T}
use lib.ListN.{length}
use Rattle.cltlb.specs.declared.Unary.{Unary}
use Rattle.cltlb.specs.declared.Unary.TheVariants as unary
use Rattle.cltlb.specs.declared.Binary.{Binary}
use Rattle.cltlb.specs.declared.Binary.TheVariants as binary
use Rattle.cltlb.specs.declared.Operator.{Operator}
use Rattle.cltlb.specs.declared.Operator.TheVariants.{One, Two}
use Rattle.plan.specs.Positions.{last, after}
use Rattle.plan.specs.declared.sizes.Sizes.{Sizes}
use Rattle.plan.specs.inner.Sizes.{all_rows}
use Rattle.plan.proofs.Rows.{after_last, after_other}
use Rattle.table.specs.Layout.{mark_byte, marked}
use Rattle.marks.specs.declared.operators.Beside.{Beside}
use Rattle.marks.specs.declared.operators.Beside.TheVariants.{After, Before}
use Rattle.marks.specs.Equations.{beside_of, watched, mark_two, step_on, mark_beside, operator_mark}
use Rattle.marks.specs.Parts.{closes_by, closes}
use Rattle.marks.specs.inner.Tables.{meets_on, clear_of, ahead_of, behind_of, copy_test, step_test}
use Rattle.table.specs.inner.Tables.{all_below, copy_of, copies_of, step_of, steps_of, mark_in, most_bytes, Sized, MarkBytes}
use Rattle.table.proofs.Places.{part_cells, area}
use Rattle.table.proofs.Flips.{dual_step}
use Rattle.table.proofs.ByteTests.{some_bytes}
use Rattle.table.proofs.AllBelow.{all_each, all_ext, all_first, all_last}
use Rattle.marks.proofs.Tests.{beq_t}
use Rattle.marks.proofs.ByMarks.{met_truth, closes_by_marks}

-- ---- from the lone rows and the sweep of the others to all rows

module _ (P C : ℕ) (h_c : 1 ≤ C) (test : ℕ → ℕ → Bool) {f : ℕ → Bool} {rest alone : Bool} (h : rest ≡ all_below f (P + C - 1)) where
  ahead_swept : ((k : ℕ) → f k ≡ test k (suc k)) → alone ≡ test (P + C - 1) P → (rest && alone) ≡ ahead_of P C test
  unfolding ahead_of last
  ahead_swept same e =
      ap (λ (x : Bool). x && alone) h
      ∙ all_last f (λ row. test row (after P C row)) (P + C - 1)
      (λ k l. same k ∙ ap (test k) (next k (omega arith))) (e ∙ ap (test (P + C - 1)) (sym (after_last P C)))
      ∙ ap (all_below (λ row. test row (after P C row))) whole
    where
      next : (k : ℕ) → suc k < P + C → suc k ≡ after P C k
      next k l = omega (arith, after_other P C k l)

      whole : suc (P + C - 1) ≡ P + C
      whole = omega arith

  behind_swept : ((k : ℕ) → f k ≡ test (suc k) k) → alone ≡ test P (P + C - 1) → (first : Bool) → ((first && rest) && alone) ≡ behind_of P C first test
  unfolding behind_of
  behind_swept same e first =
      ap₂ ◌&&◌ (ap (λ (x : Bool). first && x) (h ∙ all_ext f (λ k. test (suc k) k) (P + C - 1) (λ k l. same k))) e

-- one place on
on : (x k : ℕ) → x + 1 + k ≡ x + suc k
on x k = omega arith

-- As the code comes to them.
module _ (P C : ℕ) (h_c : 1 ≤ C) (table : List ℕ) (m a : ℕ) {rest alone : Bool} where
  pub copies_ahead : rest ≡ copies_of false (λ k. mark_in table (m + k)) (λ k. mark_in table (a + 1 + k)) (P + C - 1)
      → alone ≡ copy_test table m a (P + C - 1) P → (rest && alone) ≡ ahead_of P C (copy_test table m a)
  copies_ahead h = ahead_swept P C h_c (copy_test table m a) h (λ k. ap (λ (x : ℕ). copy_of false (mark_in table (m + k)) (mark_in table x)) (on a k))

  pub copies_behind : rest ≡ copies_of false (λ k. mark_in table (m + 1 + k)) (λ k. mark_in table (a + k)) (P + C - 1)
      → alone ≡ copy_test table m a P (P + C - 1) → {first x : Bool} → first ≡ x → ((first && rest) && alone) ≡ behind_of P C x (copy_test table m a)
  copies_behind h e {first} d =
      behind_swept P C h_c (copy_test table m a) h (λ k. ap (λ (x : ℕ). copy_of false (mark_in table x) (mark_in table (a + k))) (on m k)) e first
      ∙ ap (λ (x : Bool). behind_of P C x (copy_test table m a)) d

  module _ (b : ℕ) (opposite : Bool) where
    pub steps_ahead : rest ≡ steps_of opposite (λ k. mark_in table (m + k)) (λ k. mark_in table (a + k)) (λ k. mark_in table (b + k)) (λ k. mark_in table (m + 1 + k)) (P + C - 1)
        → alone ≡ step_test opposite table m a b (P + C - 1) P → (rest && alone) ≡ ahead_of P C (step_test opposite table m a b)
    steps_ahead h = ahead_swept P C h_c (step_test opposite table m a b) h
        (λ k. ap (λ (x : ℕ). step_of opposite (mark_in table (m + k)) (mark_in table (a + k)) (mark_in table (b + k)) (mark_in table x)) (on m k))

    pub steps_behind : rest ≡ steps_of opposite (λ k. mark_in table (m + 1 + k)) (λ k. mark_in table (a + 1 + k)) (λ k. mark_in table (b + 1 + k)) (λ k. mark_in table (m + k)) (P + C - 1)
        → alone ≡ step_test opposite table m a b P (P + C - 1) → {first x : Bool} → first ≡ x
        → ((first && rest) && alone) ≡ behind_of P C x (step_test opposite table m a b)
    steps_behind h e {first} d =
        behind_swept P C h_c (step_test opposite table m a b) h
        (λ k. ap₂ (λ (x y : ℕ). step_of opposite (mark_in table x) (mark_in table y) (mark_in table (b + 1 + k)) (mark_in table (m + k))) (on m k) (on a k)
        ∙ ap (λ (x : ℕ). step_of opposite (mark_in table (m + suc k)) (mark_in table (a + suc k)) (mark_in table x) (mark_in table (m + k))) (on b k)) e first
        ∙ ap (λ (x : Bool). behind_of P C x (step_test opposite table m a b)) d

-- ---- from tests of all rows to the equation and closing

module _ (P C : ℕ) (mark : ℕ → ℕ → Bool) (i : ℕ) (o : Operator) where
  -- the equation on a row, by the mark beside
  abbrev pub row_test : ℕ → Bool → Bool
  row_test row x = beq (mark i row) (step_on mark o row x)

  -- what stands beside, by the side
  beside_is : (s : Beside) → beside_of o ≡ s → (row : ℕ) → row_test row (mark_beside P C s (mark (watched o i)) row) ≡ meets_on P C mark o i row
  unfolding meets_on operator_mark
  beside_is s e row = ap (λ (s : Beside). row_test row (mark_beside P C s (mark (watched o i)) row)) (sym e)

  -- all rows meet the equation
  pub met_each : all_below (meets_on P C mark o i) (P + C) ≡ true → (row : ℕ) → row < P + C → mark i row ≡ operator_mark P C mark o i row
  unfolding meets_on
  met_each all row l = (beq_t (mark i row) (operator_mark P C mark o i row)).0 (subst T (sym (all_each (meets_on P C mark o i) (P + C) all row l)) tt)

  -- Where they do, closing by the marks is closing by the truth.
  by_truth : 1 ≤ C → (before : Bool) → beside_of o ≡ Before before
      → (all_below (meets_on P C mark o i) (P + C) && row_test P (mark (watched o i) (last P C))) ≡ clear_of P C mark o i
  unfolding clear_of
  by_truth h_c before s = go (all_below (meets_on P C mark o i) (P + C)) refl
    where
      go : (all : Bool) → all_below (meets_on P C mark o i) (P + C) ≡ all → (all && row_test P (mark (watched o i) (last P C))) ≡ (all && closes P C mark o)
      go true e = sym (closes_by_marks P C mark o i h_c (met_truth P C mark o i (met_each e)) before s)
      go false e = refl

  -- a test of each row and the row beside it that is the equation
  module _ (test : ℕ → ℕ → Bool) (same : (row beside : ℕ) → test row beside ≡ row_test row (mark (watched o i) beside)) where
    -- X, U and R; and not, and, or, whose equations look at no row beside
    ahead_clear : beside_of o ≡ After → ahead_of P C test ≡ clear_of P C mark o i
    unfolding ahead_of clear_of closes closes_by mark_beside
    ahead_clear s =
        all_ext (λ row. test row (after P C row)) (meets_on P C mark o i) (P + C) (λ row l. same row (after P C row) ∙ beside_is After s row)
        ∙ sym (and-true (all_below (meets_on P C mark o i) (P + C)))
        ∙ ap (λ (s : Beside). all_below (meets_on P C mark o i) (P + C) && closes_by P C mark s o) (sym s)

    -- Y, Z, S and T
    behind_clear : 1 ≤ C → (before : Bool) → beside_of o ≡ Before before → {first : Bool} → first ≡ row_test 0 before
        → behind_of P C first test ≡ clear_of P C mark o i
    unfolding behind_of mark_beside last
    behind_clear h_c before s e =
        ap₂ ◌&&◌ (all_first (λ k. test (suc k) k) (meets_on P C mark o i) (P + C - 1) (e ∙ beside_is (Before before) s 0)
        (λ k l. same (suc k) k ∙ beside_is (Before before) s (suc k)) ∙ ap (all_below (meets_on P C mark o i)) whole)
        (same P (P + C - 1))
        ∙ by_truth h_c before s
      where
        whole : suc (P + C - 1) ≡ P + C
        whole = omega arith

-- ---- what is tested of each operator

-- the Boolean tests
and_step : (m a b : Bool) → step_of true m a b a ≡ beq m (a && b)
and_step m a b = dual_step m a b a ∙ ap (beq m) (ap (λ x. b && x) (or_self a) ∙ and_comm b a)

or_step : (m a b : Bool) → step_of false m a b a ≡ beq m (a || b)
or_step m a b = ap (beq m) (ap (λ x. b || x) (and_self a) ∙ or_comm b a)

since_first : (m a b : Bool) → copy_of false m b ≡ beq m (mark_two binary.Since a b false)
since_first m true true = refl
since_first m true false = refl
since_first m false true = refl
since_first m false false = refl

trigger_first : (m a b : Bool) → copy_of false m b ≡ beq m (mark_two binary.Trigger a b true)
trigger_first m true true = refl
trigger_first m true false = refl
trigger_first m false true = refl
trigger_first m false false = refl

module _ (P C : ℕ) (h_c : 1 ≤ C) (table : List ℕ) (i a : ℕ) {m s : ℕ} (d : m ≡ 4 + (i * (P + C) + 0)) (e : s ≡ 4 + (a * (P + C) + 0)) where
  abbrev mark : ℕ → ℕ → Bool
  mark = marked (P + C) table

  -- a mark by its place
  mark_on : (part row : ℕ) {x : ℕ} → x ≡ 4 + (part * (P + C) + 0) → mark_in table (x + row) ≡ mark part row
  unfolding marked mark_byte
  mark_on part row {x} e = let place : x + row ≡ 4 + (part * (P + C) + row) = omega arith in ap (mark_in table) place

  mark_first : (part : ℕ) {x : ℕ} → x ≡ 4 + (part * (P + C) + 0) → mark_in table x ≡ mark part 0
  unfolding marked mark_byte
  mark_first part e = ap (mark_in table) e

  -- over one part
  abbrev pub one_tested : Unary → Bool
  one_tested unary.Not = copies_of true (λ k. mark_in table (m + k)) (λ k. mark_in table (s + k)) (P + C)
  one_tested unary.Next = ahead_of P C (copy_test table m s)
  one_tested unary.Yesterday = behind_of P C (copy_of false (mark_in table m) false) (copy_test table m s)
  one_tested unary.WeakYesterday = behind_of P C (copy_of false (mark_in table m) true) (copy_test table m s)

  copy_same : (row beside : ℕ) → copy_test table m s row beside ≡ beq (mark i row) (mark a beside)
  copy_same row beside = ap₂ beq (mark_on i row d) (mark_on a beside e)

  one_tested_lem : (o : Unary) → one_tested o ≡ clear_of P C mark (One o a) i
  unfolding ahead_of
  one_tested_lem unary.Not =
      ahead_clear P C mark i (One unary.Not a) (λ row beside. copy_of true (mark_in table (m + row)) (mark_in table (s + row)))
      (λ row beside. ap₂ (λ x y. beq x (not y)) (mark_on i row d) (mark_on a row e)) refl
  one_tested_lem unary.Next = ahead_clear P C mark i (One unary.Next a) (copy_test table m s) copy_same refl
  one_tested_lem unary.Yesterday =
      behind_clear P C mark i (One unary.Yesterday a) (copy_test table m s) copy_same h_c false refl (ap (λ x. beq x false) (mark_first i d))
  one_tested_lem unary.WeakYesterday =
      behind_clear P C mark i (One unary.WeakYesterday a) (copy_test table m s) copy_same h_c true refl (ap (λ x. beq x true) (mark_first i d))

  pub one_clear : {o q : Unary} {r : Bool} → o ≡ q → r ≡ one_tested q → r ≡ clear_of P C mark (One o a) i
  one_clear {o} {q} f h = h ∙ one_tested_lem q ∙ ap (λ (o : Unary). clear_of P C mark (One o a) i) (sym f)

  -- over two parts
  module _ (b : ℕ) {x : ℕ} (f : x ≡ 4 + (b * (P + C) + 0)) where
    abbrev own : Bool → Bool
    own opposite = steps_of opposite (λ k. mark_in table (m + k)) (λ k. mark_in table (s + k)) (λ k. mark_in table (x + k)) (λ k. mark_in table (s + k)) (P + C)

    abbrev pub two_tested : Binary → Bool
    two_tested binary.And = own true
    two_tested binary.Or = own false
    two_tested binary.Until = ahead_of P C (step_test false table m s x)
    two_tested binary.Release = ahead_of P C (step_test true table m s x)
    two_tested binary.Since = behind_of P C (copy_of false (mark_in table m) (mark_in table x)) (step_test false table m s x)
    two_tested binary.Trigger = behind_of P C (copy_of false (mark_in table m) (mark_in table x)) (step_test true table m s x)

    step_marks : (opposite : Bool) (row beside next : ℕ) {y : ℕ} → y ≡ 4 + (next * (P + C) + 0)
        → step_of opposite (mark_in table (m + row)) (mark_in table (s + row)) (mark_in table (x + row)) (mark_in table (y + beside))
        ≡ step_of opposite (mark i row) (mark a row) (mark b row) (mark next beside)
    step_marks opposite row beside next {y} g =
        ap₂ (λ u v. step_of opposite u v (mark_in table (x + row)) (mark_in table (y + beside))) (mark_on i row d) (mark_on a row e)
        ∙ ap₂ (λ u v. step_of opposite (mark i row) (mark a row) u v) (mark_on b row f) (mark_on next beside g)

    step_same : (row beside : ℕ) → step_test false table m s x row beside ≡ beq (mark i row) (mark b row || (mark a row && mark i beside))
    step_same row beside = step_marks false row beside i d

    dual_same : (row beside : ℕ) → step_test true table m s x row beside ≡ beq (mark i row) (mark b row && (mark a row || mark i beside))
    dual_same row beside = step_marks true row beside i d ∙ dual_step (mark i row) (mark a row) (mark b row) (mark i beside)

    first_mark : copy_of false (mark_in table m) (mark_in table x) ≡ copy_of false (mark i 0) (mark b 0)
    first_mark = ap₂ beq (mark_first i d) (mark_first b f)

    two_tested_lem : (o : Binary) → two_tested o ≡ clear_of P C mark (Two o a b) i
    unfolding ahead_of
    two_tested_lem binary.And =
        ahead_clear P C mark i (Two binary.And a b)
        (λ row beside. step_of true (mark_in table (m + row)) (mark_in table (s + row)) (mark_in table (x + row)) (mark_in table (s + row)))
        (λ row beside. step_marks true row row a e ∙ and_step (mark i row) (mark a row) (mark b row)) refl
    two_tested_lem binary.Or =
        ahead_clear P C mark i (Two binary.Or a b)
        (λ row beside. step_of false (mark_in table (m + row)) (mark_in table (s + row)) (mark_in table (x + row)) (mark_in table (s + row)))
        (λ row beside. step_marks false row row a e ∙ or_step (mark i row) (mark a row) (mark b row)) refl
    two_tested_lem binary.Until = ahead_clear P C mark i (Two binary.Until a b) (step_test false table m s x) step_same refl
    two_tested_lem binary.Release = ahead_clear P C mark i (Two binary.Release a b) (step_test true table m s x) dual_same refl
    two_tested_lem binary.Since =
        behind_clear P C mark i (Two binary.Since a b) (step_test false table m s x) step_same h_c false refl (first_mark ∙ since_first (mark i 0) (mark a 0) (mark b 0))
    two_tested_lem binary.Trigger =
        behind_clear P C mark i (Two binary.Trigger a b) (step_test true table m s x) dual_same h_c true refl (first_mark ∙ trigger_first (mark i 0) (mark a 0) (mark b 0))

    pub two_clear : {o q : Binary} {r : Bool} → o ≡ q → r ≡ two_tested q → r ≡ clear_of P C mark (Two o a b) i
    two_clear {o} {q} g h = h ∙ two_tested_lem q ∙ ap (λ (o : Binary). clear_of P C mark (Two o a b) i) (sym g)

-- whichever operator it is
pub clear_of_lem : (P C : ℕ) (mark : ℕ → ℕ → Bool) (i : ℕ) {o q : Operator} {r : Bool} → o ≡ q → r ≡ clear_of P C mark q i → r ≡ clear_of P C mark o i
clear_of_lem P C mark i e h = h ∙ ap (λ (o : Operator). clear_of P C mark o i) (sym e)

-- ---- bounds

-- Some of the marks of all rows: all but the last, all but the first, and lone ones.
module _ (P : ℕ) {C : ℕ} (h_c : 1 ≤ C) {table : List ℕ} {m : ℕ} (marks : MarkBytes table m (P + C)) where
  pub but_last : MarkBytes table m (P + C - 1)
  but_last = some_bytes marks 0 (P + C - 1) (omega arith) (omega arith)

  pub but_first : MarkBytes table (m + 1) (P + C - 1)
  but_first = some_bytes marks 1 (P + C - 1) (omega arith) refl

  pub on_first : MarkBytes table m 1
  on_first = some_bytes marks 0 1 (omega arith) (omega arith)

  pub on_start : MarkBytes table (m + P) 1
  on_start = some_bytes marks P 1 (omega arith) refl

  pub on_last : MarkBytes table (m + (P + C - 1)) 1
  on_last = some_bytes marks (P + C - 1) 1 (omega arith) refl

module _ {table : List ℕ} {n : ℕ} (z : Sizes) (sized : Sized table n (all_rows z)) (a_cycle : 1 ≤ z.cycle) (marks : MarkBytes table 4 (n * all_rows z)) where
  -- The marks of a part are marks.
  own_marks : (part : ℕ) → part < n → {place : ℕ} → place ≡ 4 + (part * all_rows z + 0) → MarkBytes table place (all_rows z)
  own_marks part l e = some_bytes marks (part * all_rows z) (all_rows z) (part_cells n (all_rows z) part l) (omega arith)

  small : length table ≤ most_bytes
  small =
      let whole = sized.whole in
      let few = sized.few_parts in
      let most = area n (all_rows z) few sized.few_rows in
      omega arith

  -- What the sweeps ask for, of an operator over one part and over two.
  module _ (i a : ℕ) (li : i < n) (la : a < n) {m s : ℕ} (d : m ≡ 4 + (i * all_rows z + 0)) (e : s ≡ 4 + (a * all_rows z + 0)) where
    pub one_there : (1 ≤ z.cycle) × MarkBytes table m (all_rows z) × MarkBytes table s (all_rows z) × (length table ≤ most_bytes)
    one_there = (a_cycle, own_marks i li d, own_marks a la e, small)

    pub two_there : (b : ℕ) → b < n → {x : ℕ} → x ≡ 4 + (b * all_rows z + 0)
        → (1 ≤ z.cycle) × MarkBytes table m (all_rows z) × MarkBytes table s (all_rows z) × MarkBytes table x (all_rows z) × (length table ≤ most_bytes)
    two_there b lb f = (a_cycle, own_marks i li d, own_marks a la e, own_marks b lb f, small)
