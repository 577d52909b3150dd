-- Parts that clear refusal 3: shifts are -4 to 4, channels are below their number, the ends of a window are minutes of the week that
-- differ, and the parts that are named are lower. Assumes nothing.
use Rattle.std.specs.Prelude.{ℕ, Bool, true, ◌&&◌, not, ltb, eqb, ℤ, pos, negsuc}
use Rattle.std.specs.Int.Signed.{lt_z, le_z}
use Rattle.cltlb.specs.Week.{week}
use Rattle.cltlb.specs.declared.Term.{Term}
use Rattle.cltlb.specs.declared.Term.TheVariants.{Constant, Reading}
use Rattle.cltlb.specs.declared.Atom.{Atom}
use Rattle.cltlb.specs.declared.Atom.TheVariants.{Less, Equal, Window, Pinned}
use Rattle.cltlb.specs.declared.Operator.{Operator}
use Rattle.cltlb.specs.declared.Operator.TheVariants.{One, Two}
use Rattle.cltlb.specs.declared.View.{View}
use Rattle.cltlb.specs.declared.View.TheVariants as view

-- a shift of -4 to 4; negsuc 3 is -4
unfoldable pub shift_fits : ℤ → Bool
shift_fits shift = not (lt_z shift (negsuc 3)) && le_z shift (pos 4)

-- The channel is 0 to V - 1, and the shift -4 to 4.
unfoldable pub term_fits : ℕ → Term → Bool
term_fits v (Constant z) = true
term_fits v (Reading channel shift) = ltb channel v && shift_fits shift

-- from and to are 0 to 10079 and unequal
unfoldable pub window_fits : ℕ → ℕ → Bool
window_fits from to = (ltb from week && ltb to week) && not (eqb from to)

unfoldable pub atom_fits : ℕ → Atom → Bool
atom_fits v (Less x y) = term_fits v x && term_fits v y
atom_fits v (Equal x y) = term_fits v x && term_fits v y
atom_fits v (Window channel shift from to) = term_fits v (Reading channel shift) && window_fits from to
atom_fits v (Pinned channel shift) = term_fits v (Reading channel shift)

-- A named part has a lower number than its user, which is part n.
unfoldable pub names_lower : ℕ → Operator → Bool
names_lower n (One o a) = ltb a n
names_lower n (Two o a b) = ltb a n && ltb b n

-- Part n fits: it names lower parts, its terms fit V channels.
unfoldable pub view_fits : ℕ → ℕ → View → Bool
view_fits v n (view.Atom x) = atom_fits v x
view_fits v n (view.Operator o) = names_lower n o
