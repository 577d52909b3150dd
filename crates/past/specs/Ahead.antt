-- Parts that look at a later row: X, U, R, or a shift above 0. Assumes nothing.
use Rattle.std.specs.Prelude.{Bool, true, false, ◌||◌, ℤ, pos}
use Rattle.std.specs.Int.Signed.{lt_z}
use Rattle.cltlb.specs.declared.Term.{Term}
use Rattle.cltlb.specs.declared.Term.TheVariants.{Constant, Reading}
use Rattle.cltlb.specs.declared.Atom.{Atom}
use Rattle.cltlb.specs.declared.Atom.TheVariants.{Less, Equal, Window, Pinned}
use Rattle.cltlb.specs.declared.Unary.{Unary}
use Rattle.cltlb.specs.declared.Unary.TheVariants.{Not, Next, Yesterday, WeakYesterday}
use Rattle.cltlb.specs.declared.Binary.{Binary}
use Rattle.cltlb.specs.declared.Binary.TheVariants.{And, Or, Until, Release, Since, Trigger}
use Rattle.cltlb.specs.declared.Operator.{Operator}
use Rattle.cltlb.specs.declared.Operator.TheVariants.{One, Two}
use Rattle.cltlb.specs.declared.View.{View}
use Rattle.cltlb.specs.declared.View.TheVariants as view

unfoldable pub shift_ahead : ℤ → Bool
shift_ahead shift = lt_z (pos 0) shift

unfoldable pub term_ahead : Term → Bool
term_ahead (Constant z) = false
term_ahead (Reading channel shift) = shift_ahead shift

unfoldable pub atom_ahead : Atom → Bool
atom_ahead (Less x y) = term_ahead x || term_ahead y
atom_ahead (Equal x y) = term_ahead x || term_ahead y
atom_ahead (Window channel shift from to) = shift_ahead shift
atom_ahead (Pinned channel shift) = shift_ahead shift

unfoldable pub unary_ahead : Unary → Bool
unary_ahead Not = false
unary_ahead Next = true
unary_ahead Yesterday = false
unary_ahead WeakYesterday = false

unfoldable pub binary_ahead : Binary → Bool
binary_ahead And = false
binary_ahead Or = false
binary_ahead Until = true
binary_ahead Release = true
binary_ahead Since = false
binary_ahead Trigger = false

unfoldable pub operator_ahead : Operator → Bool
operator_ahead (One o a) = unary_ahead o
operator_ahead (Two o a b) = binary_ahead o

unfoldable pub view_ahead : View → Bool
view_ahead (view.Atom x) = atom_ahead x
view_ahead (view.Operator o) = operator_ahead o
