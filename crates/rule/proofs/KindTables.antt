-- The fourteen kinds: a part is its kind byte with its operand, and a kind byte with an operand of its shape is a part.
-- Assumes nothing.
use Prim.Native.Nat.{ℕ}
use native.Mathlib.Omega.{arith}
use mathlib.Core.Path.{◌≡◌, refl, sym, ap, ◌∙◌, subst, subst⁻¹}
use mathlib.Core.Bool.{Bool, true, false, cond}
use lib.Dec.{eqb}
use lib.IntN.{ℤ}
use borrow.Author.Tests.{eqb-true}
use Rattle.cltlb.specs.declared.Term.{Term}
use Rattle.cltlb.specs.declared.Part.{Part}
use Rattle.cltlb.specs.declared.Part.TheVariants.{Less, Equal, Not, And, Or, Next, Until, Release, Yesterday, WeakYesterday, Since, Trigger, Window, Pinned}
use Rattle.rule.specs.declared.operands.Operand.{Operand}
use Rattle.rule.specs.declared.operands.Operand.TheVariants.{Terms, One, Two}
use Rattle.rule.specs.declared.operands.Operand.TheVariants as operand
use Rattle.rule.specs.declared.operands.Shape.{Shape}
use Rattle.rule.specs.declared.operands.Shape.TheVariants.{Comparison, NamesOne, NamesTwo, Unknown}
use Rattle.rule.specs.declared.operands.Shape.TheVariants as shape
use Rattle.rule.specs.Kinds.{kind_of, operand_of, shape_of, is_unknown, part_of}
use Rattle.rule.proofs.Laid.{shape_in}

-- a part off its kind byte and its operand
abbrev Split : Part → Type 0
Split p = (shape_of (kind_of p) ≡ shape_in (operand_of p)) × (part_of (kind_of p) (operand_of p) ≡ p)

split : (p : Part) → Split p
unfolding shape_of part_of
split (Less x y) = (refl, refl)
split (Equal x y) = (refl, refl)
split (Not a) = (refl, refl)
split (And a b) = (refl, refl)
split (Or a b) = (refl, refl)
split (Next a) = (refl, refl)
split (Until a b) = (refl, refl)
split (Release a b) = (refl, refl)
split (Yesterday a) = (refl, refl)
split (WeakYesterday a) = (refl, refl)
split (Since a b) = (refl, refl)
split (Trigger a b) = (refl, refl)
split (Window channel shift from to) = (refl, refl)
split (Pinned channel shift) = (refl, refl)

-- A part's kind byte asks for the shape of its operand,
pub kind_shape : (p : Part) → shape_of (kind_of p) ≡ shape_in (operand_of p)
kind_shape p = (split p).0

-- and the two together are the part.
pub part_back : (p : Part) → part_of (kind_of p) (operand_of p) ≡ p
part_back p = (split p).1

shape_known : (o : Operand) → is_unknown (shape_in o) ≡ false
shape_known (Terms x y) = refl
shape_known (One a) = refl
shape_known (Two a b) = refl
shape_known (operand.Window channel shift from to) = refl
shape_known (operand.Pinned channel shift) = refl

-- The kind byte of a part is known.
pub kind_known : (p : Part) → is_unknown (shape_of (kind_of p)) ≡ false
kind_known p = ap is_unknown (kind_shape p) ∙ shape_known (operand_of p)

-- a statement about k by a test of it against j
tested : (F : ℕ → Type 0) (k j : ℕ) → F j → (eqb k j ≡ false → F k) → F k
tested F k j here other = go (eqb k j) refl
  where
    go : (b : Bool) → eqb k j ≡ b → F k
    go true e = subst F (sym (eqb-true k j e)) here
    go false e = other e

-- a statement about every known kind byte, kind by kind
by_kind : (F : ℕ → Type 0) → F 1 → F 2 → F 3 → F 4 → F 5 → F 6 → F 7 → F 8 → F 9 → F 10 → F 11 → F 12 → F 13 → F 14
    → (k : ℕ) → is_unknown (shape_of k) ≡ false → F k
unfolding shape_of
by_kind F a₁ a₂ a₃ a₄ a₅ a₆ a₇ a₈ a₉ a₁₀ a₁₁ a₁₂ a₁₃ a₁₄ k h =
    tested F k 1 a₁ (λ e₁. tested F k 2 a₂ (λ e₂. tested F k 3 a₃ (λ e₃. tested F k 4 a₄ (λ e₄.
    tested F k 5 a₅ (λ e₅. tested F k 6 a₆ (λ e₆. tested F k 7 a₇ (λ e₇. tested F k 8 a₈ (λ e₈.
    tested F k 9 a₉ (λ e₉. tested F k 10 a₁₀ (λ e₁₀. tested F k 11 a₁₁ (λ e₁₁. tested F k 12 a₁₂ (λ e₁₂.
    tested F k 13 a₁₃ (λ e₁₃. tested F k 14 a₁₄ (λ e₁₄.
    let z : true ≡ false = simp (e₁, e₂, e₃, e₄, e₅, e₆, e₇, e₈, e₉, e₁₀, e₁₁, e₁₂, e₁₃, e₁₄) at h in
    absurd (let w : ◌≡◌ {A = ℕ} 0 1 = cc in omega arith)))))))))))))))

-- what is made of a kind byte and an operand has that operand
by_test : (o : Operand) (b : Bool) (p q : Part) → operand_of p ≡ o → operand_of q ≡ o → operand_of (cond b p q) ≡ o
by_test o true p q e f = e
by_test o false p q e f = f

pub operand_back : (k : ℕ) (o : Operand) → operand_of (part_of k o) ≡ o
unfolding part_of
operand_back k (Terms x y) = by_test (Terms x y) (eqb k 1) _ _ refl refl
operand_back k (One a) = by_test (One a) (eqb k 3) _ _ refl (by_test (One a) (eqb k 6) _ _ refl (by_test (One a) (eqb k 9) _ _ refl refl))
operand_back k (Two a b) =
    by_test (Two a b) (eqb k 4) _ _ refl
    (by_test (Two a b) (eqb k 5) _ _ refl
    (by_test (Two a b) (eqb k 7) _ _ refl
    (by_test (Two a b) (eqb k 8) _ _ refl (by_test (Two a b) (eqb k 11) _ _ refl refl))))
operand_back k (operand.Window channel shift from to) = refl
operand_back k (operand.Pinned channel shift) = refl

-- a statement about every operand of one shape
abbrev OfShape : Shape → (Operand → Type 0) → Type 0
OfShape Comparison F = (x y : Term) → F (Terms x y)
OfShape NamesOne F = (a : ℕ) → F (One a)
OfShape NamesTwo F = (a b : ℕ) → F (Two a b)
OfShape shape.Window F = (channel : ℕ) (shift : ℤ) (from to : ℕ) → F (operand.Window channel shift from to)
OfShape shape.Pinned F = (channel : ℕ) (shift : ℤ) → F (operand.Pinned channel shift)
OfShape Unknown F = Unit {0}

of_shape : (F : Operand → Type 0) (o : Operand) → OfShape (shape_in o) F → F o
of_shape F (Terms x y) f = f x y
of_shape F (One a) f = f a
of_shape F (Two a b) f = f a b
of_shape F (operand.Window channel shift from to) f = f channel shift from to
of_shape F (operand.Pinned channel shift) f = f channel shift

-- what is made of a kind byte and any operand of the shape that it asks for has that kind byte
abbrev KindKept : ℕ → Type 0
KindKept k = OfShape (shape_of k) (λ o. kind_of (part_of k o) ≡ k)

kind_kept : (k : ℕ) → is_unknown (shape_of k) ≡ false → KindKept k
unfolding shape_of part_of
kind_kept =
    by_kind KindKept (λ x y. refl) (λ x y. refl) (λ a. refl) (λ a b. refl) (λ a b. refl) (λ a. refl) (λ a b. refl) (λ a b. refl)
    (λ a. refl) (λ a. refl) (λ a b. refl) (λ a b. refl) (λ channel shift from to. refl) (λ channel shift. refl)

pub kind_back : (k : ℕ) (o : Operand) → is_unknown (shape_of k) ≡ false → shape_in o ≡ shape_of k → kind_of (part_of k o) ≡ k
kind_back k o h e =
    of_shape (λ o. kind_of (part_of k o) ≡ k) o (subst⁻¹ (λ (s : Shape). OfShape s (λ o. kind_of (part_of k o) ≡ k)) e (kind_kept k h))
