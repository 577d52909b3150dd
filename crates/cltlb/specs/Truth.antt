-- Formulas, and the published truth of a formula at a position of a run (001, section 2.3). Assumes nothing.
use Rattle.std.specs.Prelude.{ℕ, ◌≡◌, true, ◌⊎◌, ℤ, pos, ◌+ℤ◌, ◌<ℤ◌}
use Rattle.cltlb.specs.Run.{Seen, number, pinned, Run}
use Rattle.cltlb.specs.Week.{in_window}
use Rattle.cltlb.specs.Operators.{Until, Release, Since, Trigger, Next, Yesterday, WeakYesterday}
use Rattle.cltlb.specs.declared.Term.{Term}
use Rattle.cltlb.specs.declared.Term.TheVariants.{Constant, Reading}
use Rattle.cltlb.specs.declared.Atom.{Atom}
use Rattle.cltlb.specs.declared.Atom.TheVariants.{Less, Equal, Window, Pinned}
use Rattle.cltlb.specs.declared.Unary.{Unary}
use Rattle.cltlb.specs.declared.Unary.TheVariants as unary
use Rattle.cltlb.specs.declared.Binary.{Binary}
use Rattle.cltlb.specs.declared.Binary.TheVariants as binary

-- A formula is an atom, or an operator over one formula or two.
pub data Formula : Type 0 where
  atom : Atom → Formula
  one : Unary → Formula → Formula
  two : Binary → Formula → Formula → Formula

-- A comparison at position t reads each channel at t plus its shift.
unfoldable pub value_at : Run → Term → ℕ → Seen
value_at r (Constant z) t = number z
value_at r (Reading c s) t = r c (pos t +ℤ s)

-- What is seen is two numbers, and they stand in the relation; so it is false where one is pinned or reaches before the run.
unfoldable pub Compared : (ℤ → ℤ → Type 0) → Seen → Seen → Type 0
Compared R x y = (a b : ℤ) × (x ≡ number a) × (y ≡ number b) × R a b

-- What is seen is a number, and its minute of the week is in the window; so it is false where the reading is pinned or before the run.
unfoldable pub Within : ℕ → ℕ → Seen → Type 0
Within from to x = (a : ℤ) × (x ≡ number a) × (in_window from to a ≡ true)

-- The published truth of an atom at position t; of a window, of kind 14 and wherever a pinned reading is met, document 02's.
unfoldable pub AtomHolds : Run → Atom → ℕ → Type 0
AtomHolds r (Less x y) t = Compared ◌<ℤ◌ (value_at r x t) (value_at r y t)
AtomHolds r (Equal x y) t = Compared ◌≡◌ (value_at r x t) (value_at r y t)
AtomHolds r (Window c s from to) t = Within from to (value_at r (Reading c s) t)
AtomHolds r (Pinned c s) t = value_at r (Reading c s) t ≡ pinned

-- What an operator says at position t, of statements A and B about positions.
unfoldable pub UnaryHolds : Unary → (ℕ → Type 0) → ℕ → Type 0
UnaryHolds unary.Not A t = ¬ A t
UnaryHolds unary.Next A t = Next A t
UnaryHolds unary.Yesterday A t = Yesterday A t
UnaryHolds unary.WeakYesterday A t = WeakYesterday A t

unfoldable pub BinaryHolds : Binary → (ℕ → Type 0) → (ℕ → Type 0) → ℕ → Type 0
BinaryHolds binary.And A B t = A t × B t
BinaryHolds binary.Or A B t = A t ⊎ B t
BinaryHolds binary.Until A B t = Until A B t
BinaryHolds binary.Release A B t = Release A B t
BinaryHolds binary.Since A B t = Since A B t
BinaryHolds binary.Trigger A B t = Trigger A B t

-- The published truth of a formula at position t.
unfoldable pub Holds : Run → Formula → ℕ → Type 0
Holds r (atom x) t = AtomHolds r x t
Holds r (one o f) t = UnaryHolds o (Holds r f) t
Holds r (two o f g) t = BinaryHolds o (Holds r f) (Holds r g) t
