-- Tests against the statements that they decide. Assumes nothing.
use mathlib.Core.Path.{◌≡◌, refl}
use mathlib.Core.Bool.{Bool, true, false, not, ◌&&◌, ◌||◌, true≢false}
use mathlib.Core.Logic.Iff
use mathlib.Core.Logic.{◌↔◌, ◌⊎◌, inl, inr, ⊎_elim}
use Prim.Native.Nat.{ℕ}
use native.Mathlib.Omega.{arith}
use lib.Dec.{T, T_not, not_T}
use lib.IntN.{ℤ}
use lib.Signed.{◌<ℤ◌, lt_z}
use Rattle.cltlb.specs.Run.{Seen, number, pinned, before_run}
use Rattle.cltlb.specs.Week.{in_window}
use Rattle.cltlb.specs.Truth.{Compared, Within}
use Rattle.cltlb.proofs.Pinned.{no_number}
use Rattle.verdict.specs.Lines.{eq_z}
use Rattle.verdict.specs.Comparisons.{of_number, of_numbers, seen_pinned, tested}
use Rattle.verdict.specs.declared.Relation.TheVariants as relation
use Rattle.verdict.proofs.Decisions.{T_true}
use Rattle.verdict.proofs.Relations.{tested_decides, same_number}

-- Boolean operations against the statements that they stand for.
pub not_iff : {X : Type 0} (x : Bool) → T x ↔ X → T (not x) ↔ (¬ X)
not_iff x f = (λ n h. T_not x n (f.1 h), λ g. not_T x (λ h. g (f.0 h)))

pub and_iff : {X Y : Type 0} (x y : Bool) → T x ↔ X → T y ↔ Y → T (x && y) ↔ (X × Y)
and_iff true y f g = (λ h. (f.0 tt, g.0 h), λ p. g.1 p.1)
and_iff false y f g = (absurd, λ p. f.1 p.0)

pub or_iff : {X Y : Type 0} (x y : Bool) → T x ↔ X → T y ↔ Y → T (x || y) ↔ (X ⊎ Y)
or_iff true y f g = (λ _. inl (f.0 tt), λ _. tt)
or_iff false y f g = (λ h. inr (g.0 h), ⊎_elim (λ h. absurd (f.1 h)) g.1)

-- A test that decides a statement.
pub decided : {X : Type 0} (x : Bool) → T x ↔ X → X ⊎ (X → ⊥)
decided true f = inl (f.0 tt)
decided false f = inr f.1

pub or-false : (x y : Bool) → (x || y) ≡ false → (x ≡ false) × (y ≡ false)
or-false true y e = absurd (true≢false e)
or-false false y e = (refl, e)

-- ---- what is seen

pub less_decides : (a b : Seen) → T (of_numbers lt_z a b) ↔ Compared ◌<ℤ◌ a b
unfolding tested
less_decides a b = Iff.trans (T_true (of_numbers lt_z a b)) (tested_decides relation.Below a b)

pub equal_decides : (a b : Seen) → T (of_numbers eq_z a b) ↔ Compared ◌≡◌ a b
unfolding tested
equal_decides a b = Iff.trans (T_true (of_numbers eq_z a b)) (tested_decides relation.Same a b)

pub pinned_decides : (a : Seen) → T (seen_pinned a) ↔ (a ≡ pinned)
unfolding tested
pinned_decides a = Iff.trans (T_true (seen_pinned a)) (tested_decides relation.Pinned a a)

before_number : (a : ℤ) → before_run ≡ number a → ⊥
before_number a e = let z : ◌≡◌ {A = ℕ} 0 1 = cc in absurd (omega arith)

pub window_decides : (from to : ℕ) (a : Seen) → T (of_number a (in_window from to)) ↔ Within from to a
unfolding of_number Within
window_decides from to (number a) = (
  λ h. (a, refl, (T_true (in_window from to a)).0 h),
  λ w. (T_true (in_window from to a)).1 (rw (same_number w.1) w.2),
)
window_decides from to pinned = (absurd, λ w. absurd (no_number w.0 w.1))
window_decides from to before_run = (absurd, λ w. absurd (before_number w.0 w.1))
