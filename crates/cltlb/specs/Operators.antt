-- The temporal operators of CLTLB (001, section 2.3), over any statements A and B about a position. Assumes nothing.
use Rattle.std.specs.Prelude.{ℕ, zero, suc, ◌≤◌, ◌<◌, ◌⊎◌}

module _ (A B : ℕ → Type 0) where
  -- a U b: b at some j from t on, and a from t to j - 1
  unfoldable pub Until : ℕ → Type 0
  Until t = (j : ℕ) × (t ≤ j) × B j × ((k : ℕ) → t ≤ k → k < j → A k)

  -- a R b: at every j from t on, b holds or a held somewhere from t to j - 1
  unfoldable pub Release : ℕ → Type 0
  Release t = (j : ℕ) → t ≤ j → B j ⊎ ((k : ℕ) × (t ≤ k) × (k < j) × A k)

  -- a S b: b at some j from 0 to t, and a from j + 1 to t
  unfoldable pub Since : ℕ → Type 0
  Since t = (j : ℕ) × (j ≤ t) × B j × ((k : ℕ) → j < k → k ≤ t → A k)

  -- a T b: at every j from 0 to t, b holds or a holds somewhere from j + 1 to t
  unfoldable pub Trigger : ℕ → Type 0
  Trigger t = (j : ℕ) → j ≤ t → B j ⊎ ((k : ℕ) × (j < k) × (k ≤ t) × A k)

module _ (A : ℕ → Type 0) where
  -- X a: a at t + 1
  unfoldable pub Next : ℕ → Type 0
  Next t = A (suc t)

  -- Y a: t above 0 and a at t - 1
  unfoldable pub Yesterday : ℕ → Type 0
  Yesterday zero = ⊥
  Yesterday (suc t) = A t

  -- Z a: t is 0, or a at t - 1
  unfoldable pub WeakYesterday : ℕ → Type 0
  WeakYesterday zero = Unit {0}
  WeakYesterday (suc t) = A t
