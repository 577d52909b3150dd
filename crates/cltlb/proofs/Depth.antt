-- The formula of a part does not depend on how deep names are followed, where parts name lower parts. Assumes nothing.
use mathlib.Core.Path.{◌≡◌, refl, ap, ap₂}
use mathlib.Core.Bool.{true}
use Prim.Native.Nat.{ℕ, zero, suc, ◌<◌}
use native.Mathlib.Nat.{not-suc-le-zero}
use native.Mathlib.Omega.{arith}
use Rattle.cltlb.specs.Truth.{Formula}
use Rattle.cltlb.specs.Parts.{formula_from, formula_to, formula_of}
use Rattle.cltlb.specs.Fits.{view_fits}
use Rattle.cltlb.specs.declared.Operator.TheVariants.{One, Two}
use Rattle.cltlb.specs.declared.View.{View}
use Rattle.cltlb.specs.declared.View.TheVariants.{Atom, Operator}
use Rattle.cltlb.proofs.Fits.{operator_fits, one_lower, two_lower}

-- The formula of a part is one and the same over formulas that agree at the parts that it names.
from_same : (v i : ℕ) (p : View) (f g : ℕ → Formula) → view_fits v i p ≡ true → ((a : ℕ) → a < i → f a ≡ g a) → formula_from p f ≡ formula_from p g
unfolding formula_from
from_same v i (Atom x) f g fits e = refl
from_same v i (Operator (One o a)) f g fits e = ap (Formula.one o) (e a (one_lower i o a (operator_fits v i (One o a) fits)))
from_same v i (Operator (Two o a b)) f g fits e = let l = two_lower i o a b (operator_fits v i (Two o a b) fits) in ap₂ (Formula.two o) (e a l.0) (e b l.1)

-- Over v channels and n parts that fit.
module _ (parts : ℕ → View) (v n : ℕ) (fits : (i : ℕ) → i < n → view_fits v i (parts i) ≡ true) where
  depths_same : (d e i : ℕ) → i < d → i < e → i < n → formula_to parts d i ≡ formula_to parts e i
  unfolding formula_to
  depths_same zero e i h k l = absurd (not-suc-le-zero h)
  depths_same (suc d) zero i h k l = absurd (not-suc-le-zero k)
  depths_same (suc d) (suc e) i h k l =
      from_same v i (parts i) (formula_to parts d) (formula_to parts e) (fits i l) (λ a q. depths_same d e a (omega arith) (omega arith) (omega arith))

  -- Any depth above a part's number gives the part's formula.
  pub depth_same : (d i : ℕ) → i < n → i < d → formula_to parts d i ≡ formula_of parts i
  unfolding formula_of
  depth_same d i l h = depths_same d (suc i) i h (omega arith) l

  -- A part's formula is made from the formulas of the parts that it names.
  pub formula_made : (i : ℕ) → i < n → formula_of parts i ≡ formula_from (parts i) (formula_of parts)
  unfolding formula_of formula_to
  formula_made i l = from_same v i (parts i) (formula_to parts i) (formula_of parts) (fits i l) (λ a q. depth_same i a (omega arith) q)
