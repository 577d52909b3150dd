-- A part as the logic looks at it: an atom, or an operator with the parts that it names. Assumes nothing.
use Rattle.std.specs.Prelude.{ℕ, Bool, true, false}
use Rattle.cltlb.specs.declared.Part.{Part}
use Rattle.cltlb.specs.declared.Part.TheVariants.{Less, Equal, Not, And, Or, Next, Until, Release, Yesterday, WeakYesterday, Since, Trigger, Window, Pinned}
use Rattle.cltlb.specs.declared.Atom.TheVariants as atom
use Rattle.cltlb.specs.declared.Unary.{Unary}
use Rattle.cltlb.specs.declared.Unary.TheVariants as unary
use Rattle.cltlb.specs.declared.Binary.{Binary}
use Rattle.cltlb.specs.declared.Binary.TheVariants as binary
use Rattle.cltlb.specs.declared.Operator.TheVariants.{One, Two}
use Rattle.cltlb.specs.declared.View.{View}
use Rattle.cltlb.specs.declared.View.TheVariants.{Atom, Operator}

abbrev pub one_view : Unary → ℕ → View
one_view o a = Operator (One o a)

abbrev pub two_view : Binary → ℕ → ℕ → View
two_view o a b = Operator (Two o a b)

abbrev pub view_of : Part → View
view_of (Less x y) = Atom (atom.Less x y)
view_of (Equal x y) = Atom (atom.Equal x y)
view_of (Not a) = one_view unary.Not a
view_of (And a b) = two_view binary.And a b
view_of (Or a b) = two_view binary.Or a b
view_of (Next a) = one_view unary.Next a
view_of (Until a b) = two_view binary.Until a b
view_of (Release a b) = two_view binary.Release a b
view_of (Yesterday a) = one_view unary.Yesterday a
view_of (WeakYesterday a) = one_view unary.WeakYesterday a
view_of (Since a b) = two_view binary.Since a b
view_of (Trigger a b) = two_view binary.Trigger a b
view_of (Window c s from to) = Atom (atom.Window c s from to)
view_of (Pinned c s) = Atom (atom.Pinned c s)

-- The atoms are the parts whose truth is read off the run: the comparisons, less and equal, the windows, and that a reading is pinned.
abbrev pub is_atom : View → Bool
is_atom (Atom x) = true
is_atom (Operator o) = false
