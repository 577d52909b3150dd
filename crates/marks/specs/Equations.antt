-- What the mark of a part on a row has to be (001, the tables of the encoding): the one-step expansion of its operator.
-- Assumes nothing.
use Rattle.std.specs.Prelude.{ℕ, zero, suc, Bool, true, false, not, ◌&&◌, ◌||◌}
use Rattle.cltlb.specs.declared.Atom.{Atom}
use Rattle.cltlb.specs.declared.Unary.{Unary}
use Rattle.cltlb.specs.declared.Unary.TheVariants.{Not, Next, Yesterday, WeakYesterday}
use Rattle.cltlb.specs.declared.Binary.{Binary}
use Rattle.cltlb.specs.declared.Binary.TheVariants.{And, Or, Until, Release, Since, Trigger}
use Rattle.cltlb.specs.declared.Operator.{Operator}
use Rattle.cltlb.specs.declared.Operator.TheVariants.{One, Two}
use Rattle.cltlb.specs.declared.View.{View}
use Rattle.cltlb.specs.declared.View.TheVariants as view
use Rattle.plan.specs.Positions.{after}
use Rattle.marks.specs.declared.operators.Beside.{Beside}
use Rattle.marks.specs.declared.operators.Beside.TheVariants.{After, Before}

-- The row that an operator looks at beside its own: X, U and R at the row after; Y, Z, S and T at the row before, where before
-- row 0 false counts for Y and S, true for Z and T. Not, and, or look at their own row alone.
abbrev pub beside_one : Unary → Beside
beside_one Not = After
beside_one Next = After
beside_one Yesterday = Before false
beside_one WeakYesterday = Before true

abbrev pub beside_two : Binary → Beside
beside_two And = After
beside_two Or = After
beside_two Until = After
beside_two Release = After
beside_two Since = Before false
beside_two Trigger = Before true

-- The mark of an operator over one part, by the part's mark on the row and on the row beside. X, Y and Z: the named part on the
-- row beside; so Y on row 0 is false, and Z on row 0 is true.
abbrev pub mark_one : Unary → Bool → Bool → Bool
mark_one Not a beside = not a
mark_one Next a beside = beside
mark_one Yesterday a beside = beside
mark_one WeakYesterday a beside = beside

-- Of one over two parts, by their marks on the row and its own on the row beside. a U b and a S b: b, or a and the mark beside;
-- a R b and a T b: b, and (a or the mark beside). So a S b and a T b on row 0 are b.
abbrev pub mark_two : Binary → Bool → Bool → Bool → Bool
mark_two And a b beside = a && b
mark_two Or a b beside = a || b
mark_two Until a b beside = b || (a && beside)
mark_two Release a b beside = b && (a || beside)
mark_two Since a b beside = b || (a && beside)
mark_two Trigger a b beside = b && (a || beside)

abbrev pub beside_of : Operator → Beside
beside_of (One o a) = beside_one o
beside_of (Two o a b) = beside_two o

-- the part at whose mark on the row beside part i looks: the one that it names, or itself
abbrev pub watched : Operator → ℕ → ℕ
watched (One o a) i = a
watched (Two o a b) i = i

-- The mark of an operator on a row, by the marks there of the parts that it names and by the mark beside.
abbrev pub step_on : (ℕ → ℕ → Bool) → Operator → ℕ → Bool → Bool
step_on mark (One o a) row beside = mark_one o (mark a row) beside
step_on mark (Two o a b) row beside = mark_two o (mark a row) (mark b row) beside

-- What it sees of the row beside, by its own truth there: the mark of the part that it names, or that truth.
abbrev pub watched_truth : (ℕ → ℕ → Bool) → Operator → Bool → ℕ → Bool
watched_truth mark (One o a) own beside = mark a beside
watched_truth mark (Two o a b) own beside = own

-- With P start rows and C cycle rows.
module _ (P C : ℕ) where
  -- the mark on the row beside a row
  unfoldable pub mark_beside : Beside → (ℕ → Bool) → ℕ → Bool
  mark_beside After marks row = marks (after P C row)
  mark_beside (Before first) marks zero = first
  mark_beside (Before first) marks (suc row) = marks row

  module _ (mark : ℕ → ℕ → Bool) where
    unfoldable pub operator_mark : Operator → ℕ → ℕ → Bool
    operator_mark o i row = step_on mark o row (mark_beside (beside_of o) (mark (watched o i)) row)

    -- Part i on a row: an operator by the marks; an atom by its truth at pass 0, `atoms`.
    unfoldable pub expected : (Atom → ℕ → Bool) → View → ℕ → ℕ → Bool
    expected atoms (view.Atom x) i row = atoms x row
    expected atoms (view.Operator o) i row = operator_mark o i row
