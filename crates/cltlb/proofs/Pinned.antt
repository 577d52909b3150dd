-- What document 02 says of tops and pinned readings, as laws of the definitions. Assumes nothing.
use Prim.Native.Nat.{ℕ}
use native.Mathlib.Omega.{arith}
use mathlib.Core.Path.{◌≡◌, refl, sym, ◌∙◌}
use mathlib.Core.Bool.{Bool, true, false, cond, ◌&&◌, false≢true}
use mathlib.Core.Logic.{◌↔◌, ◌⊎◌, ⊎_elim}
use lib.IntN.{ℤ, pos}
use lib.Signed.{le_z}
use Rattle.cltlb.specs.Run.{number, pinned, before_run, is_top, is_pinned, under, Run}
use Rattle.cltlb.specs.Truth.{atom, one, value_at, Compared, Within, AtomHolds, UnaryHolds, Holds}
use Rattle.cltlb.specs.declared.Term.{Term}
use Rattle.cltlb.specs.declared.Term.TheVariants.{Constant, Reading}
use Rattle.cltlb.specs.declared.Atom.{Atom}
use Rattle.cltlb.specs.declared.Atom.TheVariants.{Less, Equal, Window, Pinned}
use Rattle.cltlb.specs.declared.Unary.TheVariants as unary

pub no_number : (z : ℤ) → pinned ≡ number z → ⊥
no_number z e = let z : ◌≡◌ {A = ℕ} 0 1 = cc in absurd (omega arith)

-- 0 means no top.
pub no_top_pins_nothing : (z : ℤ) → under (pos 0) z ≡ number z
unfolding under is_pinned is_top
no_top_pins_nothing z = refl

-- A value is pinned exactly where it is at or above a top that is not 0.
pub pinned_from_its_top : (top z : ℤ) → (under top z ≡ pinned) ↔ ((is_top top ≡ true) × (le_z top z ≡ true))
unfolding under is_pinned
pinned_from_its_top top z = go (is_top top) (le_z top z)
  where
    go : (a b : Bool) → (cond (a && b) pinned (number z) ≡ pinned) ↔ ((a ≡ true) × (b ≡ true))
    go true true = (λ _. (refl, refl), λ _. refl)
    go true false = (λ e. absurd (no_number z (sym e)), λ p. absurd (false≢true p.1))
    go false b = (λ e. absurd (no_number z (sym e)), λ p. absurd (false≢true p.0))

module _ (r : Run) (t : ℕ) where
  -- Constants are never pinned.
  pub constants_are_numbers : (z : ℤ) → value_at r (Constant z) t ≡ pinned → ⊥
  unfolding value_at
  constants_are_numbers z e = no_number z (sym e)

  -- an atom is a comparison or window with a pinned term
  unfoldable pub HasPinned : Atom → Type 0
  HasPinned (Less x y) = (value_at r x t ≡ pinned) ⊎ (value_at r y t ≡ pinned)
  HasPinned (Equal x y) = (value_at r x t ≡ pinned) ⊎ (value_at r y t ≡ pinned)
  HasPinned (Window c s from to) = value_at r (Reading c s) t ≡ pinned
  HasPinned (Pinned c s) = ⊥

  compared : (R : ℤ → ℤ → Type 0) (x y : Term) → (value_at r x t ≡ pinned) ⊎ (value_at r y t ≡ pinned) → ¬ Compared R (value_at r x t) (value_at r y t)
  unfolding Compared
  compared R x y p h = ⊎_elim (λ e. no_number h.0 (sym e ∙ h.2)) (λ e. no_number h.1 (sym e ∙ h.3)) p

  -- A comparison or window with a pinned term is false,
  pub pinned_false : (x : Atom) → HasPinned x → ¬ AtomHolds r x t
  unfolding HasPinned AtomHolds Within
  pinned_false (Less x y) p h = compared _ x y p h
  pinned_false (Equal x y) p h = compared _ x y p h
  pinned_false (Window c s from to) e h = no_number h.0 (sym e ∙ h.1)
  pinned_false (Pinned c s) p h = p

  -- so that the not of it is true.
  pub not_pinned : (x : Atom) → HasPinned x → Holds r (one unary.Not (atom x)) t
  unfolding Holds UnaryHolds
  not_pinned x p = pinned_false x p

  -- Kind 14 is true exactly where its reading is pinned, and so false before the run.
  pub pinned_exactly : (c : ℕ) (s : ℤ) → AtomHolds r (Pinned c s) t ↔ (value_at r (Reading c s) t ≡ pinned)
  unfolding AtomHolds
  pinned_exactly c s = (λ h. h, λ h. h)

  pub not_pinned_before : (c : ℕ) (s : ℤ) → value_at r (Reading c s) t ≡ before_run → ¬ AtomHolds r (Pinned c s) t
  unfolding AtomHolds
  not_pinned_before c s e h = let f : before_run ≡ pinned = sym e ∙ h in let z : ◌≡◌ {A = ℕ} 0 1 = cc in absurd (omega arith)
