-- A loop that looks for the lowest number at which a test is true: where it stands, it answers as the search from there on.
-- Assumes nothing.
use Rattle.std.specs.Prelude.{Err}
use mathlib.Core.Path.{◌≡◌, sym, ap}
use mathlib.Core.Bool.{Bool, true, false}
use Prim.Native.Nat.{ℕ, ◌+◌, ◌-◌, ◌≤◌, ◌<◌}
use native.Mathlib.Omega.{arith}
use Rattle.refusal.specs.Lowest.{lowest, lowest_from}
use Rattle.refusal.specs.First.{◌or_else◌, refused_at, at_lowest}
use Rattle.refusal.specs.declared.Refusal.{Refusal}
use Rattle.refusal.specs.Outcome.{Outcome, unrefused}
use Rattle.refusal.proofs.Lowest.{passes, found, ended}

-- what the numbers from k on give
abbrev pub search_from : (ℕ → Bool) → ℕ → (ℕ → Refusal) → ℕ → Outcome
search_from f n r k = refused_at r (lowest_from f k (n - k))

module _ (f : ℕ → Bool) (n : ℕ) (r : ℕ → Refusal) where
  pub search_starts : at_lowest f n r ≡ search_from f n r 0
  unfolding at_lowest lowest
  search_starts = ap (λ (m : ℕ). refused_at r (lowest_from f 0 m)) e
    where
      e : n ≡ n - 0
      e = omega arith

  pub search_on : (k : ℕ) → k < n → f k ≡ false → search_from f n r k ≡ search_from f n r (k + 1)
  search_on k h e = ap (refused_at r) (passes f k n h e)

  pub search_stops : (k : ℕ) → k < n → f k ≡ true → Err (r k) ≡ search_from f n r k
  unfolding refused_at
  search_stops k h e = sym (ap (refused_at r) (found f k n h e))

  pub search_ends : (k : ℕ) → n ≤ k → unrefused ≡ search_from f n r k
  unfolding refused_at
  search_ends k h = sym (ap (refused_at r) (ended f k n h))

-- the same with `rest` after the search
module _ (f : ℕ → Bool) (r : ℕ → Refusal) (rest : Outcome) where
  pub search_first : (n : ℕ) → (at_lowest f n r or_else rest) ≡ (search_from f n r 0 or_else rest)
  search_first n = ap (λ o. o or_else rest) (search_starts f n r)

  pub search_next : (k n : ℕ) → k < n → f k ≡ false → (search_from f n r k or_else rest) ≡ (search_from f n r (k + 1) or_else rest)
  search_next k n h e = ap (λ o. o or_else rest) (search_on f n r k h e)

  pub search_found : (k n : ℕ) → k < n → f k ≡ true → (search_from f n r k or_else rest) ≡ Err (r k)
  unfolding ◌or_else◌
  search_found k n h e = ap (λ o. o or_else rest) (sym (search_stops f n r k h e))

  pub search_end : (k n : ℕ) → n ≤ k → (search_from f n r k or_else rest) ≡ rest
  unfolding ◌or_else◌
  search_end k n h = ap (λ o. o or_else rest) (sym (search_ends f n r k h))
