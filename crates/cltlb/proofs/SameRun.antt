-- Runs that are seen alike on the channels below v make the same parts true, where the parts' terms fit v channels. Assumes
-- nothing.
use mathlib.Core.Path.{◌≡◌, refl, ap, ap₂, fun_ext, subst, subst⁻¹}
use mathlib.Core.Bool.{true}
use mathlib.Core.Logic.{◌↔◌}
use Prim.Native.Nat.{ℕ, zero, suc, ◌<◌}
use native.Mathlib.Nat.{not-suc-le-zero}
use native.Mathlib.Omega.{arith}
use lib.IntN.{ℤ, pos, ◌+ℤ◌}
use lib.Signed.{◌<ℤ◌}
use Rattle.cltlb.specs.Run.{Seen, pinned, Run}
use Rattle.cltlb.specs.Truth.{Formula, value_at, Compared, Within, AtomHolds, UnaryHolds, BinaryHolds, Holds}
use Rattle.cltlb.specs.Fits.{term_fits, atom_fits, view_fits}
use Rattle.cltlb.specs.Parts.{formula_from, formula_to, formula_of}
use Rattle.cltlb.specs.declared.Term.{Term}
use Rattle.cltlb.specs.declared.Term.TheVariants.{Constant, Reading}
use Rattle.cltlb.specs.declared.Atom.{Atom}
use Rattle.cltlb.specs.declared.Atom.TheVariants.{Less, Equal, Window, Pinned}
use Rattle.cltlb.specs.declared.Operator.TheVariants.{One, Two}
use Rattle.cltlb.specs.declared.View.{View}
use Rattle.cltlb.specs.declared.View.TheVariants as view
use Rattle.cltlb.proofs.Fits.{reading_fits, less_fits, equal_fits, window_fits_lem, pinned_fits, atom_fits_lem, operator_fits, one_lower, two_lower}

module _ (r q : Run) (v : ℕ) (same : (c : ℕ) → c < v → (z : ℤ) → r c z ≡ q c z) where
  -- A term that fits is seen alike.
  pub value_same : (x : Term) → term_fits v x ≡ true → (t : ℕ) → value_at r x t ≡ value_at q x t
  unfolding value_at
  value_same (Constant z) h t = refl
  value_same (Reading c s) h t = same c (reading_fits v c s h).0 (pos t +ℤ s)

  atom_same : (x : Atom) → atom_fits v x ≡ true → (t : ℕ) → AtomHolds r x t ≡ AtomHolds q x t
  unfolding AtomHolds
  atom_same (Less x y) h t =
      let p = less_fits v x y h in ap₂ {C = Type 0} (Compared ◌<ℤ◌) (value_same x p.0 t) (value_same y p.1 t)
  atom_same (Equal x y) h t =
      let p = equal_fits v x y h in ap₂ {C = Type 0} (Compared ◌≡◌) (value_same x p.0 t) (value_same y p.1 t)
  atom_same (Window c s from to) h t = ap {B = Type 0} (Within from to) (value_same (Reading c s) (window_fits_lem v c s from to h).0 t)
  atom_same (Pinned c s) h t = ap {B = Type 0} (λ (x : Seen). x ≡ pinned) (value_same (Reading c s) (pinned_fits v c s h) t)

  -- The truth of a part whose named parts have the same truth on both runs.
  from_same : (n : ℕ) (p : View) → view_fits v n p ≡ true → (f : ℕ → Formula) → ((a : ℕ) → a < n → Holds r (f a) ≡ Holds q (f a))
      → (t : ℕ) → Holds r (formula_from p f) t ≡ Holds q (formula_from p f) t
  unfolding formula_from Holds
  from_same n (view.Atom x) h f e t = atom_same x (atom_fits_lem v n x h) t
  from_same n (view.Operator (One o a)) h f e t = ap {B = Type 0} (λ (A : ℕ → Type 0). UnaryHolds o A t) (e a (one_lower n o a (operator_fits v n (One o a) h)))
  from_same n (view.Operator (Two o a b)) h f e t =
      let l = two_lower n o a b (operator_fits v n (Two o a b) h) in
      ap₂ {C = Type 0} (λ (A B : ℕ → Type 0). BinaryHolds o A B t) (e a l.0) (e b l.1)

  module _ (parts : ℕ → View) (n : ℕ) (fits : (i : ℕ) → i < n → view_fits v i (parts i) ≡ true) where
    depth_same : (d i : ℕ) → i < d → i < n → (t : ℕ) → Holds r (formula_to parts d i) t ≡ Holds q (formula_to parts d i) t
    unfolding formula_to
    depth_same zero i k l t = absurd (not-suc-le-zero k)
    depth_same (suc d) i k l t =
        from_same i (parts i) (fits i l) (formula_to parts d) (λ a h. fun_ext (λ s. depth_same d a (omega arith) (omega arith) s)) t

    -- Part i holds on one run where it does on the other.
    pub same_truth : (i : ℕ) → i < n → (t : ℕ) → Holds r (formula_of parts i) t ↔ Holds q (formula_of parts i) t
    unfolding formula_of
    same_truth i l t = let e = depth_same (suc i) i (omega arith) l t in (subst (λ (X : Type 0). X) e, subst⁻¹ (λ (X : Type 0). X) e)
