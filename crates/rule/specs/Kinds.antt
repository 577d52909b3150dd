-- The fourteen kinds: each part as its kind byte and its operand, and back. Assumes nothing.
use Rattle.std.specs.Prelude.{ℕ, eqb, List, Bool, true, false, cond}
use Rattle.rule.specs.Layout.{kind_byte}
use Rattle.cltlb.specs.declared.Part.{Part}
use Rattle.cltlb.specs.declared.Part.TheVariants.{Less, Equal, Not, And, Or, Next, Until, Release, Yesterday, WeakYesterday, Since, Trigger, Window, Pinned}
use Rattle.cltlb.specs.declared.Atom.TheVariants as atom
use Rattle.cltlb.specs.declared.Operator.TheVariants as operator
use Rattle.cltlb.specs.declared.View.{View}
use Rattle.cltlb.specs.declared.View.TheVariants as view
use Rattle.cltlb.specs.Views.{view_of}
use Rattle.rule.specs.declared.operands.Operand.{Operand}
use Rattle.rule.specs.declared.operands.Operand.TheVariants.{Terms, One, Two}
use Rattle.rule.specs.declared.operands.Operand.TheVariants as operand
use Rattle.rule.specs.declared.operands.Shape.{Shape}
use Rattle.rule.specs.declared.operands.Shape.TheVariants.{Comparison, NamesOne, NamesTwo, Unknown}
use Rattle.rule.specs.declared.operands.Shape.TheVariants as shape

-- 1 less, 2 equal, 3 not, 4 and, 5 or, 6 next, 7 until, 8 release, 9 yesterday, 10 weak yesterday, 11 since, 12 trigger,
-- 13 a window of the week, 14 the reading is pinned
abbrev pub kind_of : Part → ℕ
kind_of (Less x y) = 1
kind_of (Equal x y) = 2
kind_of (Not a) = 3
kind_of (And a b) = 4
kind_of (Or a b) = 5
kind_of (Next a) = 6
kind_of (Until a b) = 7
kind_of (Release a b) = 8
kind_of (Yesterday a) = 9
kind_of (WeakYesterday a) = 10
kind_of (Since a b) = 11
kind_of (Trigger a b) = 12
kind_of (Window channel shift from to) = 13
kind_of (Pinned channel shift) = 14

-- A comparison's operand is its two terms, a window's its reading and its ends, of "the reading is pinned" the reading, an operator's
-- the parts that it names.
abbrev pub operand_in : View → Operand
operand_in (view.Atom (atom.Less x y)) = Terms x y
operand_in (view.Atom (atom.Equal x y)) = Terms x y
operand_in (view.Atom (atom.Window channel shift from to)) = operand.Window channel shift from to
operand_in (view.Atom (atom.Pinned channel shift)) = operand.Pinned channel shift
operand_in (view.Operator (operator.One o a)) = One a
operand_in (view.Operator (operator.Two o a b)) = Two a b

abbrev pub operand_of : Part → Operand
operand_of part = operand_in (view_of part)

-- Kinds 1 and 2 compare two terms; 3, 6, 9 and 10 name one part; 4, 5, 7, 8, 11 and 12 name two; 13 is a window;
-- 14 asks for a reading alone.
unfoldable pub shape_of : ℕ → Shape
shape_of k =
    cond (eqb k 1) Comparison
    (cond (eqb k 2) Comparison
    (cond (eqb k 3) NamesOne
    (cond (eqb k 4) NamesTwo
    (cond (eqb k 5) NamesTwo
    (cond (eqb k 6) NamesOne
    (cond (eqb k 7) NamesTwo
    (cond (eqb k 8) NamesTwo
    (cond (eqb k 9) NamesOne
    (cond (eqb k 10) NamesOne
    (cond (eqb k 11) NamesTwo
    (cond (eqb k 12) NamesTwo (cond (eqb k 13) shape.Window (cond (eqb k 14) shape.Pinned Unknown)))))))))))))

abbrev pub is_unknown : Shape → Bool
is_unknown Comparison = false
is_unknown NamesOne = false
is_unknown NamesTwo = false
is_unknown shape.Window = false
is_unknown shape.Pinned = false
is_unknown Unknown = true

-- a kind byte that is not 1 to 14
unfoldable pub kind_unknown : List ℕ → ℕ → Bool
kind_unknown sheet n = is_unknown (shape_of (kind_byte sheet n))

-- the part of a kind with an operand of its shape
unfoldable pub part_of : ℕ → Operand → Part
part_of k (Terms x y) = cond (eqb k 1) (Less x y) (Equal x y)
part_of k (One a) = cond (eqb k 3) (Not a) (cond (eqb k 6) (Next a) (cond (eqb k 9) (Yesterday a) (WeakYesterday a)))
part_of k (Two a b) =
    cond (eqb k 4) (And a b)
    (cond (eqb k 5) (Or a b)
    (cond (eqb k 7) (Until a b) (cond (eqb k 8) (Release a b) (cond (eqb k 11) (Since a b) (Trigger a b)))))
part_of k (operand.Window channel shift from to) = Window channel shift from to
part_of k (operand.Pinned channel shift) = Pinned channel shift
