-- What the sweeps of the code write over the rows of an operator is its marks there. Assumes nothing.
use mathlib.Core.Path.{◌≡◌, ap, ap₂, ◌∙◌, subst, subst⁻¹}
use mathlib.Core.Bool.{Bool, true, false, ◌||◌}
use mathlib.Core.List.{List}
use Prim.Native.Nat.{ℕ, suc, ◌+◌, ◌*◌, ◌-◌, ◌≤◌, ◌<◌}
use native.Mathlib.Nat.{mul-le-mul_right}
use native.Mathlib.Omega.{arith}
use lib.ListN.{length}
use Rattle.cltlb.specs.declared.Unary.{Unary}
use Rattle.cltlb.specs.declared.Unary.TheVariants as unary
use Rattle.cltlb.specs.declared.Binary.{Binary}
use Rattle.cltlb.specs.declared.Binary.TheVariants as binary
use Rattle.cltlb.specs.declared.Operator.{Operator}
use Rattle.cltlb.specs.declared.Operator.TheVariants.{One, Two}
use Rattle.plan.specs.Positions.{last, after}
use Rattle.plan.proofs.Rows.{after_last, after_other}
use Rattle.table.specs.Layout.{marked}
use Rattle.table.specs.Bytes.{byte_of}
use Rattle.table.specs.inner.Tables.{flipped, mark_in, most_bytes, Sized}
use Rattle.table.specs.inner.Stored.{Stored}
use Rattle.table.specs.inner.Sweeps.{carried, backed, marks_from}
use Rattle.table.proofs.Places.{part_cells, area}
use Rattle.table.proofs.Stores.{still_mark, stored_same, stored_join}
use Rattle.marks.specs.declared.operators.Beside.{Beside}
use Rattle.marks.specs.declared.operators.Beside.TheVariants.{After, Before}
use Rattle.marks.specs.Equations.{beside_two, mark_beside}
use Rattle.labelling.specs.Labels.{end_two, operator_label}
use Rattle.labelling.proofs.BySweeps.{Steps, marks_read, not_label, next_label, yesterday_label, weak_label, and_label, or_label, past_label, ahead_label}

-- The second sweep goes by what the first one found.
pub two_sweeps : (old new : List ℕ) (own left right start cycle : ℕ) (f : Bool) {end : Bool} → end ≡ backed (marks_from f old left) (marks_from f old right) false cycle start
    → Stored old new own 0 (start + cycle) (λ k. byte_of (flipped f (backed (marks_from f old left) (marks_from f old right) end (start + cycle - k) k)))
    → Stored old new own 0 (start + cycle) (λ k. byte_of (flipped f (backed (marks_from f old left) (marks_from f old right) (backed (marks_from f old left) (marks_from f old right) false cycle start) (start + cycle - k) k)))
two_sweeps old new own left right start cycle f e w =
    stored_same w (λ k _ _. ap (λ (x : Bool). byte_of (flipped f (backed (marks_from f old left) (marks_from f old right) x (start + cycle - k) k))) e)

-- ---- the marks of another part on the rows beside

module _ (P C : ℕ) (h_c : 1 ≤ C) (old mid new : List ℕ) (own other : ℕ) (before : other + (P + C) ≤ own) where
  -- all that is written of them
  abbrev BesideDone : Beside → Type 0
  BesideDone side = Stored old new own 0 (P + C) (λ row. byte_of (mark_beside P C side (λ k. mark_in old (other + k)) row))

  pub after_done : Stored old mid own 0 (P + C - 1) (λ k. byte_of (marks_from false old (other + 1) k))
      → Stored mid new (own + (P + C - 1)) 0 1 (λ k. byte_of (marks_from false mid (other + P) k)) → {side : Beside} → side ≡ After → BesideDone side
  unfolding mark_beside last
  after_done v w {side} e =
      subst⁻¹ BesideDone e (subst (λ (n : ℕ). Stored old new own 0 n (λ row. byte_of (mark_in old (other + after P C row)))) whole (stored_join v w rest end))
    where
      whole : P + C - 1 + 1 ≡ P + C
      whole = omega arith

      rest : (k : ℕ) → k < P + C - 1 → byte_of (mark_in old (other + 1 + k)) ≡ byte_of (mark_in old (other + after P C k))
      rest k l =
          let next = after_other P C k (omega arith) in
          let place : other + 1 + k ≡ other + after P C k = omega arith in
          ap (λ (x : ℕ). byte_of (mark_in old x)) place

      end : (k : ℕ) → k < 1 → byte_of (marks_from false mid (other + P) k) ≡ byte_of (mark_in old (other + after P C (P + C - 1 + k)))
      end k l =
          let none : P + C - 1 + k ≡ P + C - 1 = omega arith in
          let next : after P C (P + C - 1 + k) ≡ P = ap (after P C) none ∙ after_last P C in
          let place : other + P + k ≡ other + after P C (P + C - 1 + k) = omega arith in
          ap byte_of (still_mark old own (λ k. byte_of (marks_from false old (other + 1) k)) v false (other + P) k (omega arith))
          ∙ ap (λ (x : ℕ). byte_of (mark_in old x)) place

  pub before_done : {first : Bool} → Stored old mid own 0 1 (λ k. byte_of first)
      → Stored mid new (own + 1) 0 (P + C - 1) (λ k. byte_of (marks_from false mid other k)) → {side : Beside} → side ≡ Before first → BesideDone side
  unfolding mark_beside
  before_done {first} v w {side} e =
      subst⁻¹ BesideDone e (subst (λ (n : ℕ). Stored old new own 0 n (λ row. byte_of (mark_beside P C (Before first) (λ k. mark_in old (other + k)) row))) whole (stored_join v w start rest))
    where
      whole : 1 + (P + C - 1) ≡ P + C
      whole = omega arith

      start : (k : ℕ) → k < 1 → byte_of first ≡ byte_of (mark_beside P C (Before first) (λ k. mark_in old (other + k)) k)
      start k l = let none : 0 ≡ k = omega arith in ap (λ (x : ℕ). byte_of (mark_beside P C (Before first) (λ k. mark_in old (other + k)) x)) none

      rest : (k : ℕ) → k < P + C - 1 → byte_of (marks_from false mid other k) ≡ byte_of (mark_beside P C (Before first) (λ k. mark_in old (other + k)) (1 + k))
      rest k l =
          let more : suc k ≡ 1 + k = omega arith in
          ap byte_of (still_mark old own (λ k. byte_of first) v false other k (omega arith))
          ∙ ap (λ (x : ℕ). byte_of (mark_beside P C (Before first) (λ k. mark_in old (other + k)) x)) more

-- ---- places

-- The rows of a part lie in the table, and those of a lower part before them.
pub there : {table : List ℕ} {n w : ℕ} → Sized table n w → (i : ℕ) → i < n → {own : ℕ} → own ≡ 4 + (i * w + 0) → (own + w ≤ length table) × (length table ≤ most_bytes)
there {table} {n} {w} sized i l e =
    let whole = sized.whole in
    let in_rows = part_cells n w i l in
    let few = sized.few_parts in
    let most = area n w few sized.few_rows in
    (omega arith, omega arith)

pub lower : (w i a : ℕ) → a < i → {own other : ℕ} → own ≡ 4 + (i * w + 0) → other ≡ 4 + (a * w + 0) → other + w ≤ own
lower w i a l d e = let below : (a + 1) * w ≤ i * w = mul-le-mul_right w (omega arith) in omega arith

-- ---- the marks of an operator

module _ (P C : ℕ) (h_c : 1 ≤ C) (old new : List ℕ) (i : ℕ) {own : ℕ} (d : own ≡ 4 + (i * (P + C) + 0)) where
  abbrev pub LabelDone : Operator → Type 0
  LabelDone o = Stored old new (4 + i * (P + C)) 0 (P + C) (λ row. byte_of (operator_label P C (marked (P + C) old) o row))

  -- what is written, said as the operator's marks
  written : (o : Operator) {g : ℕ → Bool} → Stored old new own 0 (P + C) (λ row. byte_of (g row))
      → ((row : ℕ) → row < P + C → g row ≡ operator_label P C (marked (P + C) old) o row) → LabelDone o
  written o {g} done h =
      subst (λ (at : ℕ). Stored old new at 0 (P + C) (λ row. byte_of (operator_label P C (marked (P + C) old) o row))) place
      (stored_same done (λ k _ l. ap byte_of (h k l)))
    where
      place : own ≡ 4 + i * (P + C)
      place = omega arith

  module _ (a : ℕ) {left : ℕ} (e : left ≡ 4 + (a * (P + C) + 0)) where
    read : (f : Bool) → marks_from f old left ≡ (λ k. flipped f (marked (P + C) old a k))
    read f = marks_read (P + C) old a f e

    pub not_done : Stored old new own 0 (P + C) (λ k. byte_of (marks_from true old left k)) → {o : Unary} → o ≡ unary.Not → LabelDone (One o a)
    not_done done k =
        subst⁻¹ (λ (o : Unary). LabelDone (One o a)) k
        (written (One unary.Not a) done (λ row l. ap (λ (g : ℕ → Bool). g row) (read true) ∙ not_label P C h_c (marked (P + C) old) a row l))

    -- one that copies the mark beside
    beside_done : (side : Beside) (o : Unary) → ((row : ℕ) → row < P + C → mark_beside P C side (marked (P + C) old a) row ≡ operator_label P C (marked (P + C) old) (One o a) row)
        → Stored old new own 0 (P + C) (λ row. byte_of (mark_beside P C side (λ k. mark_in old (left + k)) row)) → LabelDone (One o a)
    beside_done side o h done = written (One o a) done (λ row l. ap (λ (g : ℕ → Bool). mark_beside P C side g row) (read false) ∙ h row l)

    pub next_done : Stored old new own 0 (P + C) (λ row. byte_of (mark_beside P C After (λ k. mark_in old (left + k)) row)) → {o : Unary} → o ≡ unary.Next → LabelDone (One o a)
    next_done done k = subst⁻¹ (λ (o : Unary). LabelDone (One o a)) k (beside_done After unary.Next (next_label P C h_c (marked (P + C) old) a) done)

    pub yesterday_done : Stored old new own 0 (P + C) (λ row. byte_of (mark_beside P C (Before false) (λ k. mark_in old (left + k)) row)) → {o : Unary} → o ≡ unary.Yesterday → LabelDone (One o a)
    yesterday_done done k =
        subst⁻¹ (λ (o : Unary). LabelDone (One o a)) k (beside_done (Before false) unary.Yesterday (λ row _. yesterday_label P C h_c (marked (P + C) old) a row) done)

    pub weak_done : Stored old new own 0 (P + C) (λ row. byte_of (mark_beside P C (Before true) (λ k. mark_in old (left + k)) row)) → {o : Unary} → o ≡ unary.WeakYesterday → LabelDone (One o a)
    weak_done done k =
        subst⁻¹ (λ (o : Unary). LabelDone (One o a)) k (beside_done (Before true) unary.WeakYesterday (λ row _. weak_label P C h_c (marked (P + C) old) a row) done)

    module _ (b : ℕ) {right : ℕ} (e' : right ≡ 4 + (b * (P + C) + 0)) where
      read' : (f : Bool) → marks_from f old right ≡ (λ k. flipped f (marked (P + C) old b k))
      read' f = marks_read (P + C) old b f e'

      -- and, or
      joined : (f : Bool) (o : Binary)
          → ((row : ℕ) → row < P + C → flipped f (flipped f (marked (P + C) old b row) || flipped f (marked (P + C) old a row)) ≡ operator_label P C (marked (P + C) old) (Two o a b) row)
          → Stored old new own 0 (P + C) (λ k. byte_of (flipped f (marks_from f old right k || marks_from f old left k))) → LabelDone (Two o a b)
      joined f o h done = written (Two o a b) done (λ row l. ap₂ (λ (g h : ℕ → Bool). flipped f (g row || h row)) (read' f) (read f) ∙ h row l)

      pub and_done : Stored old new own 0 (P + C) (λ k. byte_of (flipped true (marks_from true old right k || marks_from true old left k))) → {o : Binary} → o ≡ binary.And → LabelDone (Two o a b)
      and_done done k = subst⁻¹ (λ (o : Binary). LabelDone (Two o a b)) k (joined true binary.And (and_label P C h_c (marked (P + C) old) a b) done)

      pub or_done : Stored old new own 0 (P + C) (λ k. byte_of (flipped false (marks_from false old right k || marks_from false old left k))) → {o : Binary} → o ≡ binary.Or → LabelDone (Two o a b)
      or_done done k = subst⁻¹ (λ (o : Binary). LabelDone (Two o a b)) k (joined false binary.Or (or_label P C h_c (marked (P + C) old) a b) done)

      module _ (s : Binary) (f : Bool) (steps : Steps s f) {o : Binary} (k : o ≡ s) where
        -- S and T
        pub past_done : beside_two s ≡ Before f
            → Stored old new own 0 (P + C) (λ k. byte_of (flipped f (carried (marks_from f old left) (marks_from f old right) k))) → LabelDone (Two o a b)
        past_done side done =
            subst⁻¹ (λ (o : Binary). LabelDone (Two o a b)) k
            (written (Two s a b) done (λ row l. ap₂ (λ (g h : ℕ → Bool). flipped f (carried g h row)) (read f) (read' f) ∙ past_label P C h_c (marked (P + C) old) s f steps a b side row))

        -- U and R
        pub ahead_done : end_two s ≡ f → beside_two s ≡ After
            → Stored old new own 0 (P + C) (λ k. byte_of (flipped f (backed (marks_from f old left) (marks_from f old right) (backed (marks_from f old left) (marks_from f old right) false C P) (P + C - k) k)))
            → LabelDone (Two o a b)
        ahead_done end side done =
            subst⁻¹ (λ (o : Binary). LabelDone (Two o a b)) k
            (written (Two s a b) done (λ row l. ap₂ (λ (g h : ℕ → Bool). flipped f (backed g h (backed g h false C P) (P + C - row) row)) (read f) (read' f)
            ∙ ahead_label P C h_c (marked (P + C) old) s f steps a b end side row l))

-- What is written of an operator, known by its shape.
pub said_of : (P C : ℕ) (old new : List ℕ) (i : ℕ) {o q : Operator} → o ≡ q
    → Stored old new (4 + i * (P + C)) 0 (P + C) (λ row. byte_of (operator_label P C (marked (P + C) old) q row))
    → Stored old new (4 + i * (P + C)) 0 (P + C) (λ row. byte_of (operator_label P C (marked (P + C) old) o row))
said_of P C old new i e done = subst⁻¹ (λ o. Stored old new (4 + i * (P + C)) 0 (P + C) (λ row. byte_of (operator_label P C (marked (P + C) old) o row))) e done
