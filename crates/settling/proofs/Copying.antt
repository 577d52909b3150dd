-- The marks of an operator that are those of other parts, on the same rows or on the rows beside. Assumes nothing.
use Prim.Native.Nat.{ℕ, zero, suc, ◌+◌, ◌-◌, ◌≤◌, ◌<◌}
use native.Mathlib.Omega.{arith}
use mathlib.Core.Path.{◌≡◌, refl, sym, ap, ap₂, ◌∙◌, subst, subst⁻¹}
use mathlib.Core.Bool.{Bool, true, false, not, ◌&&◌, ◌||◌, beq, false≢true}
use mathlib.Core.List.{List}
use borrow.Author.Tests.{not-true, not-false, lt-ltb}
use Rattle.cltlb.specs.Fits.{names_lower}
use Rattle.cltlb.specs.declared.Unary.{Unary}
use Rattle.cltlb.specs.declared.Unary.TheVariants as unary
use Rattle.cltlb.specs.declared.Binary.{Binary}
use Rattle.cltlb.specs.declared.Binary.TheVariants as binary
use Rattle.cltlb.specs.declared.Operator.{Operator}
use Rattle.cltlb.specs.declared.Operator.TheVariants.{One, Two}
use Rattle.plan.specs.Positions.{last, after}
use Rattle.plan.proofs.Rows.{after_last, after_other}
use Rattle.words.specs.inner.Words.{mark_at}
use Rattle.words.specs.inner.Written.{Marked}
use Rattle.words.proofs.Marking.{marked_none, marked_same, marked_up, marked_down, down_next}
use Rattle.marks.specs.declared.operators.Beside.TheVariants.{After, Before}
use Rattle.marks.specs.Equations.{beside_one, mark_one, mark_beside}
use Rattle.marks.specs.Parts.{running, closes_by, closes}
use Rattle.marks.proofs.Stepped.{beside_first, beside_before}
use Rattle.labelling.specs.Labels.{label_by, operator_label}
use Rattle.labelling.proofs.BySweeps.{not_label, next_label, and_label, or_label}
use Rattle.settling.specs.inner.Scratch.{Tried, OperatorTried}
use Rattle.settling.proofs.Stepping.{ahead_tried}

-- ---- on the same row

both : (x y : Bool) → (x && y) ≡ not (not y || not x)
both true true = refl
both true false = refl
both false true = refl
both false false = refl

other_way : (x y : Bool) → (x || y) ≡ (y || x)
other_way true true = refl
other_way true false = refl
other_way false true = refl
other_way false false = refl

module _ (P C : ℕ) (h_c : 1 ≤ C) (old : List ℕ) {new : List ℕ} {i : ℕ} (a : ℕ) where
  pub not_tried : {s : Unary} → s ≡ unary.Not → Marked old new i 0 (P + C) (λ row. not (mark_at old a row)) → OperatorTried P C old new i (One s a) true
  not_tried e done =
      subst⁻¹ (λ (s : Unary). OperatorTried P C old new i (One s a) true) e
      (ahead_tried P C old i (One unary.Not a) refl
      (marked_same done (λ row _ l. not_label P C h_c (mark_at old) a row l)))

  module _ (b : ℕ) where
    pub and_tried : {s : Binary} → s ≡ binary.And → Marked old new i 0 (P + C) (λ row. mark_at old a row && mark_at old b row) → OperatorTried P C old new i (Two s a b) true
    and_tried e done =
        subst⁻¹ (λ (s : Binary). OperatorTried P C old new i (Two s a b) true) e
        (ahead_tried P C old i (Two binary.And a b) refl (marked_same done (λ row _ l. both (mark_at old a row) (mark_at old b row) ∙ and_label P C h_c (mark_at old) a b row l)))

    pub or_tried : {s : Binary} → s ≡ binary.Or → Marked old new i 0 (P + C) (λ row. mark_at old a row || mark_at old b row) → OperatorTried P C old new i (Two s a b) true
    or_tried e done =
        subst⁻¹ (λ (s : Binary). OperatorTried P C old new i (Two s a b) true) e
        (ahead_tried P C old i (Two binary.Or a b) refl (marked_same done (λ row _ l. other_way (mark_at old a row) (mark_at old b row) ∙ or_label P C h_c (mark_at old) a b row l)))

-- ---- on the row after

module _ (P C : ℕ) (h_c : 1 ≤ C) (old : List ℕ) {new : List ℕ} {i : ℕ} (a : ℕ) where
  pub next_marked : {mid : List ℕ} {end : Bool} → Marked old mid i 0 (P + C - 1) (λ row. mark_at old a (row + 1)) → end ≡ mark_at old a P
      → Marked mid new i (P + C - 1) (P + C - 1 + 1) (λ _. end) → Marked old new i 0 (P + C) (mark_beside P C After (mark_at old a))
  unfolding mark_beside last
  next_marked v e w =
      let whole : P + C ≡ P + C - 1 + 1 = omega arith in
      subst⁻¹ (λ (m : ℕ). Marked old new i 0 m (λ row. mark_at old a (after P C row))) whole
      (marked_up (omega arith) (omega arith) (marked_same v (λ row _ l. ap (mark_at old a) (sym (after_other P C row (omega arith))))) w
      (λ row h l. let there : row ≡ P + C - 1 = omega arith in
      e ∙ ap (mark_at old a) (sym (ap (after P C) there ∙ after_last P C))))

  pub next_tried : {s : Unary} → s ≡ unary.Next → Marked old new i 0 (P + C) (mark_beside P C After (mark_at old a)) → OperatorTried P C old new i (One s a) true
  next_tried e done =
      subst⁻¹ (λ (s : Unary). OperatorTried P C old new i (One s a) true) e
      (ahead_tried P C old i (One unary.Next a) refl (marked_same done (λ row _ l. next_label P C h_c (mark_at old) a row l)))

-- ---- on the row before

module _ (first : Bool) (m : ℕ → Bool) where
  -- the mark on the row before; before row 0 what counts there
  abbrev pub moved : ℕ → Bool
  moved row = mark_beside 0 0 (Before first) m row

  pub moved_first : (row : ℕ) → row ≡ 0 → first ≡ moved row
  moved_first row e = beside_first 0 0 m row refl e

  pub moved_later : (row : ℕ) → ¬ (row ≡ 0) → {r : Bool} → r ≡ m (row - 1) → r ≡ moved row
  moved_later row e h = beside_before 0 0 m row refl e h

-- the rows from `row` to below `count` have the mark on the row before
abbrev pub Moving : List ℕ → ℕ → ℕ → ℕ → List ℕ → ℕ → Type 0
Moving old i a count new row = (1 ≤ row) × (row ≤ count) × Marked old new i row count (λ r. mark_at old a (r - 1))

pub moving_none : (old : List ℕ) (i a count : ℕ) → 1 ≤ count → Moving old i a count old count
moving_none old i a count h = (h, omega arith, marked_none old i count (λ r. mark_at old a (r - 1)))

pub moving_next : {old mid new : List ℕ} {i a count row : ℕ} → a < i → Moving old i a count mid row → 1 < row → {mark : Bool} → mark ≡ mark_at mid a (row - 1 - 1)
    → Marked mid new i (row - 1) (row - 1 + 1) (λ _. mark) → Moving old i a count new (row - 1)
moving_next {old} {i = i} {a} {row = row} low s l e put =
    let few = s.1 in (
      omega arith,
      omega arith,
      down_next old i (λ r. mark_at old a (r - 1)) (omega arith) few s.2 (e ∙ s.2.lower a low (row - 1 - 1)) put,
    )

pub moving_all : {old new : List ℕ} {i : ℕ} (a : ℕ) {count row : ℕ} → Moving old i a count new row → row ≤ 1 → Marked old new i 1 count (λ r. mark_at old a (r - 1))
moving_all {old} {new} {i} a {count} {row} s h =
    let low = s.0 in
    let one : row ≡ 1 = omega arith in
    subst (λ (m : ℕ). Marked old new i m count (λ r. mark_at old a (r - 1))) one s.2

module _ (old : List ℕ) (a P : ℕ) (first : Bool) {i w : ℕ} where
  -- All of them.
  pub before_marked : {mid new : List ℕ} → 1 ≤ w → Marked old mid i 1 w (λ row. mark_at old a (row - 1)) → Marked mid new i 0 (0 + 1) (λ _. first) → Marked old new i 0 w (moved first (mark_at old a))
  before_marked some v put =
      marked_down (omega arith) some (marked_same v (λ row h _. moved_later first (mark_at old a) row (λ e. omega arith) refl)) put
      (λ row _ l. moved_first first (mark_at old a) row (omega arith))

  -- Whether it closes is asked first: it does not,
  pub before_open : (last : ℕ) {x y r : Bool} → x ≡ moved first (mark_at old a) P → y ≡ mark_at old a last → r ≡ beq x y → not r ≡ true
      → Tried old old i w (moved first (mark_at old a)) (beq (moved first (mark_at old a) P) (mark_at old a last)) false
  before_open last {r = r} d e f h = record {
    outcome = sym (not-true r h) ∙ f ∙ ap₂ beq d e;
    long = refl;
    lower = λ c l row. refl;
    made = λ t. absurd (false≢true t);
  }

  -- or it does.
  pub before_closed : {new : List ℕ} (last : ℕ) {x y r : Bool} → x ≡ moved first (mark_at old a) P → y ≡ mark_at old a last → r ≡ beq x y → not r ≡ false
      → Marked old new i 0 w (moved first (mark_at old a))
      → Tried old new i w (moved first (mark_at old a)) (beq (moved first (mark_at old a) P) (mark_at old a last)) true
  before_closed last {r = r} d e f h done = record {
    outcome = sym (not-false r h) ∙ f ∙ ap₂ beq d e;
    long = done.long;
    lower = done.lower;
    made = λ _ row l. done.own row (omega arith) l;
  }

-- Y and Z: their truth on a row is the mark on the row before.
module _ (P C : ℕ) (old : List ℕ) (a : ℕ) {first : Bool} where
  module _ (s : Unary) (side : beside_one s ≡ Before first) (moves : (x y : Bool) → mark_one s x y ≡ y) where
    runs : (row : ℕ) → moved first (mark_at old a) row ≡ running (mark_at old) (One s a) first row
    unfolding running mark_beside
    runs zero = sym (moves (mark_at old a 0) first)
    runs (suc row) = sym (moves (mark_at old a (suc row)) (mark_at old a row))

    back_one : {new : List ℕ} {i : ℕ} {r : Bool} → Tried old new i (P + C) (moved first (mark_at old a)) (beq (moved first (mark_at old a) P) (mark_at old a (P + C - 1))) r
        → OperatorTried P C old new i (One s a) r
    unfolding operator_label label_by closes closes_by last
    back_one t = record {
      outcome = t.outcome
          ∙ ap₂ beq (runs P) (sym (moves (mark_at old a P) (mark_at old a (P + C - 1))))
          ∙ ap (λ side. closes_by P C (mark_at old) side (One s a)) (sym side);
      long = t.long;
      lower = t.lower;
      made = λ e row l. t.made e row l ∙ runs row ∙ ap (λ side. label_by P C (mark_at old) side (One s a) row) (sym side);
    }

pub yesterday_tried : (P C : ℕ) (old : List ℕ) (a : ℕ) {new : List ℕ} {i : ℕ} {r : Bool} {s : Unary} → s ≡ unary.Yesterday
    → Tried old new i (P + C) (moved false (mark_at old a)) (beq (moved false (mark_at old a) P) (mark_at old a (P + C - 1))) r → OperatorTried P C old new i (One s a) r
yesterday_tried P C old a {new} {i} {r} e t = subst⁻¹ (λ (s : Unary). OperatorTried P C old new i (One s a) r) e (back_one P C old a unary.Yesterday refl (λ x y. refl) t)

pub weak_tried : (P C : ℕ) (old : List ℕ) (a : ℕ) {new : List ℕ} {i : ℕ} {r : Bool} {s : Unary} → s ≡ unary.WeakYesterday
    → Tried old new i (P + C) (moved true (mark_at old a)) (beq (moved true (mark_at old a) P) (mark_at old a (P + C - 1))) r → OperatorTried P C old new i (One s a) r
weak_tried P C old a {new} {i} {r} e t = subst⁻¹ (λ (s : Unary). OperatorTried P C old new i (One s a) r) e (back_one P C old a unary.WeakYesterday refl (λ x y. refl) t)

-- ---- by the operator

pub names_two : {i : ℕ} (s : Binary) {a b : ℕ} → a < i → b < i → names_lower i (Two s a b) ≡ true
unfolding names_lower
names_two {i} s {a} {b} h l = ap₂ (λ (x y : Bool). x && y) (lt-ltb a i h) (lt-ltb b i l)

pub tried_as : (P C : ℕ) (old : List ℕ) {new : List ℕ} {i : ℕ} {o q : Operator} {r : Bool} → o ≡ q → OperatorTried P C old new i q r → OperatorTried P C old new i o r
tried_as P C old {new} {i} {r = r} e t = subst⁻¹ (λ (o : Operator). OperatorTried P C old new i o r) e t
