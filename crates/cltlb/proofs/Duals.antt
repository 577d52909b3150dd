-- R, T and Z are the duals of U, S and Y, where the statements are decided at every position. Assumes nothing.
use mathlib.Core.Path.{subst}
use mathlib.Core.Logic.{◌↔◌, ◌⊎◌, inl, inr, ⊎_elim, by_cases}
use Prim.Native.Nat.{ℕ, zero, suc, ◌≤◌, ◌<◌}
use native.Mathlib.Decide.{dec_lt}
use native.Mathlib.Omega.{arith}
use Rattle.cltlb.specs.Run.{Run}
use Rattle.cltlb.specs.Operators.{Until, Release, Since, Trigger, Yesterday, WeakYesterday}
use Rattle.cltlb.specs.Truth.{Formula, one, two, UnaryHolds, BinaryHolds, Holds}
use Rattle.cltlb.specs.declared.Unary.TheVariants as unary
use Rattle.cltlb.specs.declared.Binary.TheVariants as binary

-- A statement holds or fails at each position.
abbrev pub Decided : (ℕ → Type 0) → Type 0
Decided A = (t : ℕ) → A t ⊎ (A t → ⊥)

module _ (A : ℕ → Type 0) where
  abbrev pub Somewhere : ℕ → ℕ → Type 0
  Somewhere low high = (k : ℕ) × (low ≤ k) × (k < high) × A k

  abbrev pub Nowhere : ℕ → ℕ → Type 0
  Nowhere low high = (k : ℕ) → low ≤ k → k < high → ¬ A k

  one_more : (low high : ℕ) → low ≤ high → A high ⊎ (A high → ⊥) → Nowhere low high → Somewhere low (suc high) ⊎ Nowhere low (suc high)
  one_more low high s (inl a) f = inl (high, s, omega arith, a)
  one_more low high s (inr n) f = inr (λ k h l. by_cases (dec_lt k high) (f k h) (λ q a. n (subst A (omega arith) a)))

module _ (A : ℕ → Type 0) (dec : Decided A) where
  -- A decided statement holds at some position from `low` to below `high`, or at none.
  pub somewhere : (low high : ℕ) → Somewhere A low high ⊎ Nowhere A low high
  somewhere low zero = inr (λ k h l. absurd (omega arith))
  somewhere low (suc high) =
      ⊎_elim
      (λ p. inl (p.0, p.1, (let l = p.2 in omega arith), p.3))
      (λ f. by_cases (dec_lt high low) (λ s. inr (λ k h l. absurd (omega arith))) (λ s. one_more A low high (omega arith) (dec high) f))
      (somewhere low high)

  -- The same of the positions above `low` up to `high`.
  pub somewhere_above : (low high : ℕ) → ((k : ℕ) × (low < k) × (k ≤ high) × A k) ⊎ ((k : ℕ) → low < k → k ≤ high → ¬ A k)
  somewhere_above low high =
      ⊎_elim
      (λ p. inl (p.0, p.1, (let l = p.2 in omega arith), p.3))
      (λ f. inr (λ k h l. f k h (omega arith)))
      (somewhere (suc low) (suc high))

  -- Z a is not Y not a.
  pub weak_dual : (t : ℕ) → WeakYesterday A t ↔ (¬ Yesterday (λ k. ¬ A k) t)
  unfolding WeakYesterday Yesterday
  weak_dual zero = (λ _ y. y, λ _. tt)
  weak_dual (suc t) = (λ a n. n a, λ f. ⊎_elim (λ a. a) (λ n. absurd (f n)) (dec t))

module _ (A B : ℕ → Type 0) (dec_a : Decided A) (dec_b : Decided B) (t : ℕ) where
  -- a R b is not (not a U not b).
  pub release_dual : Release A B t ↔ (¬ Until (λ k. ¬ A k) (λ k. ¬ B k) t)
  unfolding Release Until
  release_dual = (
    λ r u. ⊎_elim u.2 (λ p. u.3 p.0 p.1 p.2 p.3) (r u.0 u.1),
    λ f j h. ⊎_elim inl (λ n. ⊎_elim inr (λ none. absurd (f (j, h, n, none))) (somewhere A dec_a t j)) (dec_b j),
  )

  -- a T b is not (not a S not b).
  pub trigger_dual : Trigger A B t ↔ (¬ Since (λ k. ¬ A k) (λ k. ¬ B k) t)
  unfolding Trigger Since
  trigger_dual = (
    λ r s. ⊎_elim s.2 (λ p. s.3 p.0 p.1 p.2 p.3) (r s.0 s.1),
    λ f j h. ⊎_elim inl (λ n. ⊎_elim inr (λ none. absurd (f (j, h, n, none))) (somewhere_above A dec_a j t)) (dec_b j),
  )

-- The same, of formulas on a run.
module _ (r : Run) (f : Formula) (dec_f : Decided (Holds r f)) where
  pub holds_weak : (t : ℕ) → Holds r (one unary.WeakYesterday f) t ↔ Holds r (one unary.Not (one unary.Yesterday (one unary.Not f))) t
  unfolding Holds UnaryHolds
  holds_weak = weak_dual (Holds r f) dec_f

  module _ (g : Formula) (dec_g : Decided (Holds r g)) where
    pub holds_release : (t : ℕ) → Holds r (two binary.Release f g) t ↔ Holds r (one unary.Not (two binary.Until (one unary.Not f) (one unary.Not g))) t
    unfolding Holds UnaryHolds BinaryHolds
    holds_release = release_dual (Holds r f) (Holds r g) dec_f dec_g

    pub holds_trigger : (t : ℕ) → Holds r (two binary.Trigger f g) t ↔ Holds r (one unary.Not (two binary.Since (one unary.Not f) (one unary.Not g))) t
    unfolding Holds UnaryHolds BinaryHolds
    holds_trigger = trigger_dual (Holds r f) (Holds r g) dec_f dec_g
