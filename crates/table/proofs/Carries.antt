-- Marks made row after row, each by the one before it or after it: where a sweep begins, how it goes on, and where it ends.
-- Assumes nothing.
use Prim.Native.Nat.{ℕ, zero, suc, ◌+◌, ◌-◌, ◌≤◌, ◌<◌}
use native.Mathlib.Numerals.{add-one}
use native.Mathlib.Omega.{arith}
use mathlib.Core.Path.{◌≡◌, refl, sym, ap, ◌∙◌}
use mathlib.Core.Bool.{Bool, false, ◌&&◌, ◌||◌}
use Rattle.table.specs.inner.Sweeps.{carried, backed}

module _ (a b : ℕ → Bool) where
  -- b, or a and a mark beside it
  abbrev pub step_at : ℕ → Bool → Bool
  step_at k beside = b k || (a k && beside)

  -- Going on: what comes before row k,
  unfoldable pub carried_to : ℕ → Bool
  carried_to zero = false
  carried_to (suc k) = carried a b k

  pub carried_first : false ≡ carried_to 0
  unfolding carried_to
  carried_first = refl

  -- and row k by it, which comes before the next.
  pub carried_here : (k : ℕ) {mark : Bool} → mark ≡ carried_to k → step_at k mark ≡ carried a b k
  unfolding carried carried_to
  carried_here zero e = ap (step_at 0) e
  carried_here (suc k) e = ap (step_at (suc k)) e

  pub carried_next : (k : ℕ) {mark : Bool} → mark ≡ carried a b k → mark ≡ carried_to (k + 1)
  unfolding carried_to
  carried_next k e = rw add-one e

  module _ (end : Bool) where
    -- Going back from e: `end` comes after the last,
    pub backed_last : (e : ℕ) → end ≡ backed a b end (e - e) e
    unfolding backed
    backed_last e = let none : 0 ≡ e - e = omega arith in ap (λ (k : ℕ). backed a b end k e) none

    -- and each comes after the one before.
    pub backed_before : (e k : ℕ) {mark : Bool} → 0 < k → k ≤ e → mark ≡ backed a b end (e - k) k → step_at (k - 1) mark ≡ backed a b end (e - (k - 1)) (k - 1)
    unfolding backed
    backed_before e k {mark} h l same =
        let one : e - (k - 1) ≡ suc (e - k) = omega arith in
        let next : k ≡ suc (k - 1) = omega arith in
        ap (step_at (k - 1)) (same ∙ ap (backed a b end (e - k)) next) ∙ sym (ap (λ (i : ℕ). backed a b end i (k - 1)) one)
