-- What the sweeps over a table give on a row is the mark of the operator there. Assumes nothing.
use mathlib.Core.Path.{◌≡◌, refl, sym, ap, ap₂, ◌∙◌, fun_ext}
use mathlib.Core.Bool.{Bool, true, false, not, ◌&&◌, ◌||◌, or_comm}
use mathlib.Core.List.{List}
use Prim.Native.Nat.{ℕ, zero, suc, ◌+◌, ◌*◌, ◌-◌, ◌≤◌, ◌<◌}
use native.Mathlib.Omega.{arith}
use lib.Dec.{eqb}
use lib.ListN.{get_or}
use Rattle.cltlb.specs.declared.Unary.TheVariants as unary
use Rattle.cltlb.specs.declared.Binary.{Binary}
use Rattle.cltlb.specs.declared.Binary.TheVariants as binary
use Rattle.cltlb.specs.declared.Operator.TheVariants.{One, Two}
use Rattle.plan.specs.Positions.{last, after}
use Rattle.plan.proofs.Rows.{after_last, after_other}
use Rattle.table.specs.Layout.{mark_byte, marked}
use Rattle.table.specs.inner.Tables.{flipped}
use Rattle.table.specs.inner.Sweeps.{carried, backed, marks_from}
use Rattle.marks.specs.declared.operators.Beside.TheVariants.{After, Before}
use Rattle.marks.specs.Equations.{beside_two, mark_two, mark_beside}
use Rattle.marks.specs.Parts.{running}
use Rattle.labelling.specs.Labels.{end_two, following, label_by, operator_label}
use Rattle.labelling.proofs.Following.{ahead_step}

-- a mark or its opposite, twice
flip_flip : (f x : Bool) → flipped f (flipped f x) ≡ x
flip_flip false x = refl
flip_flip true true = refl
flip_flip true false = refl

-- of itself
flip_self : (f : Bool) → flipped f f ≡ false
flip_self true = refl
flip_self false = refl

-- An operator that steps from its own mark beside, by the marks or by their opposites.
abbrev pub Steps : Binary → Bool → Type 0
Steps s f = (x y z : Bool) → mark_two s x y z ≡ flipped f (flipped f y || (flipped f x && flipped f z))

dual : (x y z : Bool) → (y && (x || z)) ≡ not (not y || (not x && not z))
dual true true z = refl
dual false true true = refl
dual false true false = refl
dual x false z = refl

pub until_steps : Steps binary.Until false
until_steps x y z = refl

pub since_steps : Steps binary.Since false
since_steps x y z = refl

pub release_steps : Steps binary.Release true
release_steps = dual

pub trigger_steps : Steps binary.Trigger true
trigger_steps = dual

-- the marks of a part as the sweeps read them
pub marks_read : (w : ℕ) (table : List ℕ) (part : ℕ) (f : Bool) {at : ℕ} → at ≡ 4 + (part * w + 0)
    → marks_from f table at ≡ (λ k. flipped f (marked w table part k))
unfolding marked mark_byte
marks_read w table part f {at} e = fun_ext (λ k. ap (λ (x : ℕ). flipped f (eqb (get_or table x 0) 1)) (place k))
  where
    place : (k : ℕ) → at + k ≡ 4 + (part * w + k)
    place k = omega arith

module _ (P C : ℕ) (h_c : 1 ≤ C) (mark : ℕ → ℕ → Bool) where
  -- ---- not, and, or, and those that copy the mark beside

  pub not_label : (a row : ℕ) → row < P + C → flipped true (mark a row) ≡ operator_label P C mark (One unary.Not a) row
  unfolding operator_label
  not_label a row l = sym (ahead_step P C h_c mark (One unary.Not a) row l)

  pub next_label : (a row : ℕ) → row < P + C → mark_beside P C After (mark a) row ≡ operator_label P C mark (One unary.Next a) row
  unfolding operator_label mark_beside
  next_label a row l = sym (ahead_step P C h_c mark (One unary.Next a) row l)

  pub yesterday_label : (a row : ℕ) → mark_beside P C (Before false) (mark a) row ≡ operator_label P C mark (One unary.Yesterday a) row
  unfolding operator_label label_by running mark_beside
  yesterday_label a zero = refl
  yesterday_label a (suc row) = refl

  pub weak_label : (a row : ℕ) → mark_beside P C (Before true) (mark a) row ≡ operator_label P C mark (One unary.WeakYesterday a) row
  unfolding operator_label label_by running mark_beside
  weak_label a zero = refl
  weak_label a (suc row) = refl

  both : (x y : Bool) → not (not y || not x) ≡ (x && y)
  both true true = refl
  both true false = refl
  both false true = refl
  both false false = refl

  pub and_label : (a b row : ℕ) → row < P + C
      → flipped true (flipped true (mark b row) || flipped true (mark a row)) ≡ operator_label P C mark (Two binary.And a b) row
  unfolding operator_label
  and_label a b row l = both (mark a row) (mark b row) ∙ sym (ahead_step P C h_c mark (Two binary.And a b) row l)

  pub or_label : (a b row : ℕ) → row < P + C
      → flipped false (flipped false (mark b row) || flipped false (mark a row)) ≡ operator_label P C mark (Two binary.Or a b) row
  unfolding operator_label
  or_label a b row l = or_comm (mark b row) (mark a row) ∙ sym (ahead_step P C h_c mark (Two binary.Or a b) row l)

  -- ---- S and T: on from row 0

  module _ (s : Binary) (f : Bool) (steps : Steps s f) (a b : ℕ) where
    -- the marks as the sweep reads them
    abbrev left : ℕ → Bool
    left k = flipped f (mark a k)

    abbrev right : ℕ → Bool
    right k = flipped f (mark b k)

    runs : (row : ℕ) → running mark (Two s a b) f row ≡ flipped f (carried left right row)
    unfolding running carried
    runs zero =
        steps (mark a 0) (mark b 0) f ∙ ap (λ (x : Bool). flipped f (right 0 || (left 0 && x))) (flip_self f)
    runs (suc row) =
        ap (mark_two s (mark a (suc row)) (mark b (suc row))) (runs row)
        ∙ steps (mark a (suc row)) (mark b (suc row)) (flipped f (carried left right row))
        ∙ ap (λ (x : Bool). flipped f (right (suc row) || (left (suc row) && x))) (flip_flip f (carried left right row))

    pub past_label : beside_two s ≡ Before f → (row : ℕ) → flipped f (carried left right row) ≡ operator_label P C mark (Two s a b) row
    unfolding operator_label label_by
    past_label e row = sym (runs row) ∙ ap (λ side. label_by P C mark side (Two s a b) row) (sym e)

    -- ---- U and R: back to a row from the last one, and before that once round the cycle

    backs : (j m row : ℕ) → row + suc j ≡ P + C
        → following P C mark (Two s a b) (suc j + m) row ≡ flipped f (backed left right (flipped f (following P C mark (Two s a b) m P)) (suc j) row)
    unfolding following backed last
    backs zero m row e =
        let more : 1 + m ≡ suc m = omega arith in
        let at : row ≡ P + C - 1 = omega arith in
        let next : after P C row ≡ P = ap (after P C) at ∙ after_last P C in
        ap (λ (k : ℕ). following P C mark (Two s a b) k row) more
        ∙ ap (λ (r : ℕ). mark_two s (mark a row) (mark b row) (following P C mark (Two s a b) m r)) next
        ∙ steps (mark a row) (mark b row) (following P C mark (Two s a b) m P)
    backs (suc j) m row e =
        let more : suc (suc j) + m ≡ suc (suc j + m) = omega arith in
        let next : after P C row ≡ suc row = after_other P C row (omega arith) ∙ omega arith in
        let rest : Bool = backed left right (flipped f (following P C mark (Two s a b) m P)) (suc j) (suc row) in
        ap (λ (k : ℕ). following P C mark (Two s a b) k row) more
        ∙ ap (λ (r : ℕ). mark_two s (mark a row) (mark b row) (following P C mark (Two s a b) (suc j + m) r)) next
        ∙ ap (mark_two s (mark a row) (mark b row)) (backs j m (suc row) (omega arith))
        ∙ steps (mark a row) (mark b row) (flipped f rest)
        ∙ ap (λ (x : Bool). flipped f (right row || (left row && x))) (flip_flip f rest)

    module _ (end : end_two s ≡ f) where
      -- what the first sweep finds on row P
      first_sweep : flipped f (following P C mark (Two s a b) C P) ≡ backed left right false C P
      unfolding following
      first_sweep =
          let c : C ≡ suc (C - 1) = omega arith in
          let none : flipped f (end_two s) ≡ false = ap (flipped f) end ∙ flip_self f in
          let whole : C ≡ suc (C - 1) + 0 = omega arith in
          ap (flipped f) (ap (λ (k : ℕ). following P C mark (Two s a b) k P) whole ∙ backs (C - 1) 0 P (omega arith))
          ∙ flip_flip f (backed left right (flipped f (end_two s)) (suc (C - 1)) P)
          ∙ ap₂ (λ (x : Bool) (k : ℕ). backed left right x k P) none (sym c)

      pub ahead_label : beside_two s ≡ After → (row : ℕ) → row < P + C
          → flipped f (backed left right (backed left right false C P) (P + C - row) row) ≡ operator_label P C mark (Two s a b) row
      unfolding operator_label label_by
      ahead_label e row l =
          let k : P + C - row ≡ suc (P + C - row - 1) = omega arith in
          ap (λ (x : Bool). flipped f (backed left right x (P + C - row) row)) (sym first_sweep)
          ∙ ap (λ (k : ℕ). flipped f (backed left right (flipped f (following P C mark (Two s a b) C P)) k row)) k
          ∙ sym (backs (P + C - row - 1) C row (omega arith))
          ∙ ap (λ (k : ℕ). following P C mark (Two s a b) (k + C) row) (sym k)
          ∙ ap (λ side. label_by P C mark side (Two s a b) row) (sym e)
