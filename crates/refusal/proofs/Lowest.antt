-- What the search for the lowest number finds, and how a loop makes it. Assumes nothing.
use mathlib.Core.Path.{◌≡◌, refl, ap, ap₂, ◌∙◌, subst}
use mathlib.Core.Bool.{Bool, true, false}
use mathlib.Core.Option.{Option, none, some}
use mathlib.Core.Logic.Iff
use mathlib.Core.Logic.{◌↔◌, ◌⊎◌, inl, inr, by_cases}
use Prim.Native.Nat.{ℕ, zero, suc, ◌+◌, ◌-◌, ◌≤◌, ◌<◌}
use native.Mathlib.Decide.{dec_lt}
use native.Mathlib.Numerals.{add-one}
use native.Mathlib.Omega.{arith}
use Rattle.refusal.specs.Lowest.{or_after, lowest_from, lowest}

-- The test is false at every number from k to below m.
abbrev pub FalseFrom : (ℕ → Bool) → ℕ → ℕ → Type 0
FalseFrom f k m = (i : ℕ) → k ≤ i → i < m → f i ≡ false

-- Of the numbers from k to below m, j is the lowest at which the test is true.
abbrev pub LowestAt : (ℕ → Bool) → ℕ → ℕ → ℕ → Type 0
LowestAt f k m j = (k ≤ j) × (j < m) × (f j ≡ true) × FalseFrom f k j

-- A test is not both, and false where it is not true.
pub true_false : {b : Bool} → b ≡ true → b ≡ false → ⊥
true_false d e = let z : ◌≡◌ {A = ℕ} 0 1 = cc in omega arith

pub not_so : (b : Bool) → (b ≡ true → ⊥) → b ≡ false
not_so true h = absurd (h refl)
not_so false h = refl

none_some : {o : Option ℕ} {j : ℕ} → o ≡ none → o ≡ some j → ⊥
none_some d e = let z : ◌≡◌ {A = ℕ} 0 1 = cc in omega arith

module _ (f : ℕ → Bool) where
  from_found : (k n : ℕ) → f k ≡ true → lowest_from f k (suc n) ≡ some k
  unfolding lowest_from or_after
  from_found k n e = simp e

  from_passes : (k n : ℕ) → f k ≡ false → lowest_from f k (suc n) ≡ lowest_from f (suc k) n
  unfolding lowest_from or_after
  from_passes k n e = simp e

  false_more : (k m : ℕ) → f k ≡ false → FalseFrom f (suc k) m → FalseFrom f k m
  false_more k m e more i h l = by_cases (dec_lt k i) (λ s. more i s l) (λ s. subst (λ (x : ℕ). f x ≡ false) (omega arith) e)

  -- The search finds nothing and the test is false throughout, or it finds the lowest number.
  abbrev Searched : ℕ → ℕ → Type 0
  Searched k n = ((lowest_from f k n ≡ none) × FalseFrom f k (k + n)) ⊎ ((j : ℕ) × (lowest_from f k n ≡ some j) × LowestAt f k (k + n) j)

  searched : (k n : ℕ) → Searched k n
  unfolding lowest_from
  searched k zero = inl (refl, λ i h l. absurd (omega arith))
  searched k (suc n) = go (f k) refl (searched (suc k) n)
    where
      go : (b : Bool) → f k ≡ b → Searched (suc k) n → Searched k (suc n)
      go true e s = inr (k, from_found k n e, (omega arith, omega arith, e, λ i h l. absurd (omega arith)))
      go false e (inl p) = inl (from_passes k n e ∙ p.0, false_more k (k + suc n) e (λ i h l. p.1 i h (omega arith)))
      go false e (inr p) =
          let at = p.2 in
          inr (p.0, from_passes k n e ∙ p.1, (omega arith, omega arith, at.2, false_more k p.0 e at.3))

  -- The search finds nothing exactly where the test is false throughout.
  pub from_none : (k n : ℕ) → (lowest_from f k n ≡ none) ↔ FalseFrom f k (k + n)
  from_none k n = go (searched k n)
    where
      go : Searched k n → (lowest_from f k n ≡ none) ↔ FalseFrom f k (k + n)
      go (inl p) = (λ _. p.1, λ _. p.0)
      go (inr p) = (λ e. absurd (none_some e p.1), λ h. absurd (true_false p.2.2 (h p.0 p.2.0 p.2.1)))

  one_lowest : (k m i j : ℕ) → LowestAt f k m i → LowestAt f k m j → i ≡ j
  one_lowest k m i j p q =
      by_cases (dec_lt i j)
      (λ l. absurd (true_false p.2 (q.3 i p.0 l)))
      (λ a. by_cases (dec_lt j i) (λ l. absurd (true_false q.2 (p.3 j q.0 l))) (λ b. omega arith))

  -- The search finds j exactly where j is the lowest number at which the test is true.
  pub from_some : (k n j : ℕ) → (lowest_from f k n ≡ some j) ↔ LowestAt f k (k + n) j
  from_some k n j = go (searched k n)
    where
      go : Searched k n → (lowest_from f k n ≡ some j) ↔ LowestAt f k (k + n) j
      go (inl p) = (λ e. absurd (none_some p.0 e), λ q. absurd (true_false q.2 (p.1 j q.0 q.1)))
      go (inr p) = let d = p.1 in (
        λ e. let same : p.0 ≡ j = cc in subst (LowestAt f k (k + n)) same p.2,
        λ q. p.1 ∙ ap some (one_lowest k (k + n) p.0 j p.2 q),
      )

  -- The search among the numbers below n finds nothing exactly where the test is false of all of them.
  pub lowest_none : (n : ℕ) → (lowest f n ≡ none) ↔ ((j : ℕ) → j < n → f j ≡ false)
  unfolding lowest
  lowest_none n = Iff.trans (from_none 0 n) (λ h j l. h j (omega arith) (omega arith), λ h j z l. h j (omega arith))

  -- The search among the numbers below n finds j exactly where j is the lowest of them at which the test is true.
  pub lowest_some : (n j : ℕ) → (lowest f n ≡ some j) ↔ ((j < n) × (f j ≡ true) × ((i : ℕ) → i < j → f i ≡ false))
  unfolding lowest
  lowest_some n j = Iff.trans (from_some 0 n j) (
    λ p. ((let l = p.1 in omega arith), p.2, λ i l. p.3 i (omega arith) l),
    λ p. (omega arith, (let l = p.0 in omega arith), p.1, λ i z l. p.2 i l),
  )

  -- A loop that is at k has, of the search among the numbers below n, the part from k on to make: it goes past k,
  pub passes : (k n : ℕ) → k < n → f k ≡ false → lowest_from f k (n - k) ≡ lowest_from f (k + 1) (n - (k + 1))
  passes k n h e = let left : n - k ≡ suc (n - (k + 1)) = omega arith in rw (left, add-one) (from_passes k (n - suc k) e)

  -- or it ends with k,
  pub found : (k n : ℕ) → k < n → f k ≡ true → lowest_from f k (n - k) ≡ some k
  found k n h e = let left : n - k ≡ suc (n - (k + 1)) = omega arith in rw left (from_found k (n - (k + 1)) e)

  -- or it comes to the end.
  pub ended : (k n : ℕ) → n ≤ k → lowest_from f k (n - k) ≡ none
  ended k n h = (from_none k (n - k)).1 (λ i a b. absurd (omega arith))

module _ (f g : ℕ → Bool) where
  -- Tests that agree on the numbers searched have the same lowest one.
  pub from_ext : (k n : ℕ) → ((j : ℕ) → k ≤ j → j < k + n → f j ≡ g j) → lowest_from f k n ≡ lowest_from g k n
  unfolding lowest_from
  from_ext k zero h = refl
  from_ext k (suc n) h = ap₂ (λ b rest. or_after b k rest) (h k (omega arith) (omega arith)) (from_ext (suc k) n (λ j a b. h j (omega arith) (omega arith)))
