-- The term that six bytes stand for, by its form. Assumes nothing.
use Rattle.std.specs.Prelude.{Option, Some, None}
use Rattle.cltlb.specs.declared.Term.{Term}
use Prim.Native.Nat.{ℕ, ◌+◌}
use mathlib.Core.Path.{◌≡◌, refl, ap}
use mathlib.Core.List.{List}
use mathlib.Core.Bool.{Bool, true, false, cond}
use lib.Dec.{eqb}
use lib.ListN.{get_or}
use lib.IntN.{ℤ}
use borrow.Author.Tests.{eqb-true}
use Rattle.fields.specs.LittleEndian.{number_at}
use Rattle.fields.specs.TwosComplement.{signed_at}
use Rattle.cltlb.specs.declared.Term.TheVariants as T
use Rattle.rule.specs.Terms.{shift_of, term_at}

module _ (s : List ℕ) (at : ℕ) where
  pub constant : {z : ℤ} → get_or s at 0 ≡ 0 → get_or s (at + 1) 0 ≡ 4 → z ≡ signed_at 4 s (at + 2) → Some (T.Constant z) ≡ term_at s at
  unfolding term_at
  constant p q e = simp (p, q, e)

  pub reading : {u : ℕ} {z : ℤ} → get_or s at 0 ≡ 1 → u ≡ number_at 4 s (at + 2) → z ≡ shift_of (get_or s (at + 1) 0) → Some (T.Reading u z) ≡ term_at s at
  unfolding term_at
  reading p e f = simp (p, e, f)

  -- a statement about what the bytes stand for, by their form
  module _ (F : Option Term → Type 0) where
    pub by_form : (get_or s at 0 ≡ 0 → get_or s (at + 1) 0 ≡ 4 → F (Some (T.Constant (signed_at 4 s (at + 2)))))
        → (get_or s at 0 ≡ 1 → F (Some (T.Reading (number_at 4 s (at + 2)) (shift_of (get_or s (at + 1) 0)))))
        → (eqb (get_or s at 0) 1 ≡ false → F None)
        → F (term_at s at)
    unfolding term_at
    by_form constant reading broken = by_zero (eqb (get_or s at 0) 0) refl
      where
        by_code : get_or s at 0 ≡ 0 → (b : Bool) → eqb (get_or s (at + 1) 0) 4 ≡ b → F (cond b (Some (T.Constant (signed_at 4 s (at + 2)))) None)
        by_code f true e = constant f (eqb-true _ _ e)
        by_code f false e = broken (ap (λ (form : ℕ). eqb form 1) f)

        by_one : (b : Bool) → eqb (get_or s at 0) 1 ≡ b
            → F (cond b (Some (T.Reading (number_at 4 s (at + 2)) (shift_of (get_or s (at + 1) 0)))) None)
        by_one true e = reading (eqb-true _ _ e)
        by_one false e = broken e

        by_zero : (b : Bool) → eqb (get_or s at 0) 0 ≡ b
            → F (cond b (cond (eqb (get_or s (at + 1) 0) 4) (Some (T.Constant (signed_at 4 s (at + 2)))) None)
            (cond (eqb (get_or s at 0) 1) (Some (T.Reading (number_at 4 s (at + 2)) (shift_of (get_or s (at + 1) 0)))) None))
        by_zero true e = by_code (eqb-true _ _ e) (eqb (get_or s (at + 1) 0) 4) refl
        by_zero false e = by_one (eqb (get_or s at 0) 1) refl
