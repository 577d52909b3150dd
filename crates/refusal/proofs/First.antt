-- When tests made in order refuse nothing, and how loops make them. Assumes nothing.
use Rattle.std.specs.Prelude.{Ok, Err}
use mathlib.Core.Path.{◌≡◌, refl, sym, ap, ◌∙◌, subst}
use mathlib.Core.Bool.{Bool, true, false}
use mathlib.Core.Option.{Option, none, some}
use mathlib.Core.Logic.Iff
use mathlib.Core.Logic.{◌↔◌, by_cases, ◌⊎◌, inl, inr, ⊎_elim}
use Prim.Native.Nat.{ℕ, zero, suc, ◌+◌, ◌-◌, ◌≤◌, ◌<◌}
use native.Mathlib.Decide.{dec_lt}
use native.Mathlib.Numerals.{add-one}
use native.Mathlib.Omega.{arith}
use lib.Dec.{T}
use Rattle.refusal.specs.Lowest.{lowest}
use Rattle.refusal.specs.First.{◌or_else◌, unless, refused_at, at_lowest, in_turn_from, in_turn}
use Rattle.refusal.specs.declared.Refusal.{Refusal}
use Rattle.refusal.specs.Outcome.{Outcome, unrefused}
use Rattle.refusal.proofs.Lowest.{lowest_none}

pub clear_refused : {r : Refusal} → Err r ≡ unrefused → ⊥
clear_refused e = let z : ◌≡◌ {A = ℕ} 0 1 = cc in omega arith

-- Two tests refuse nothing where neither does.
pub or_else_clear : (x y : Outcome) → (x or_else y ≡ unrefused) ↔ ((x ≡ unrefused) × (y ≡ unrefused))
unfolding ◌or_else◌
or_else_clear (Ok _) y = (λ e. (refl, e), λ p. p.1)
or_else_clear (Err r) y = (λ e. absurd (clear_refused e), λ p. p.0)

-- A condition refuses nothing where it is met.
pub unless_clear : (b : Bool) (r : Refusal) → (unless b r ≡ unrefused) ↔ (b ≡ true)
unfolding unless
unless_clear true r = (λ _. refl, λ _. refl)
unless_clear false r = (λ e. absurd (clear_refused e), λ e. let z : ◌≡◌ {A = ℕ} 0 1 = cc in absurd (omega arith))

pub unless_clear_t : (b : Bool) (r : Refusal) → (unless b r ≡ unrefused) ↔ T b
unfolding unless
unless_clear_t true r = (λ _. tt, λ _. refl)
unless_clear_t false r = (clear_refused, absurd)

-- A condition that is not met is what refuses.
pub unless_refused_lem : (b : Bool) (q r : Refusal) → unless b q ≡ Err r → (b ≡ false) × (q ≡ r)
unfolding unless
unless_refused_lem true q r e = absurd (clear_refused (sym e))
unless_refused_lem false q r e = (refl, cc)

-- Of two tests, the first one refuses, or it refuses nothing and the second one does.
pub or_else_refused : (x y : Outcome) (r : Refusal) → x or_else y ≡ Err r → (x ≡ Err r) ⊎ ((x ≡ unrefused) × (y ≡ Err r))
unfolding ◌or_else◌
or_else_refused (Ok _) y r e = inr (refl, e)
or_else_refused (Err q) y r e = inl e

-- A search that refuses has found the number.
pub refused_at_refused : (q : ℕ → Refusal) (o : Option ℕ) (r : Refusal) → refused_at q o ≡ Err r → (k : ℕ) × (o ≡ some k) × (q k ≡ r)
unfolding refused_at
refused_at_refused q none r e = absurd (clear_refused (sym e))
refused_at_refused q (some k) r e = (k, refl, cc)

-- A search refuses nothing where it finds nothing.
pub refused_at_clear : (r : ℕ → Refusal) (o : Option ℕ) → (refused_at r o ≡ unrefused) ↔ (o ≡ none)
unfolding refused_at
refused_at_clear r none = (λ _. refl, λ _. refl)
refused_at_clear r (some k) = (λ e. absurd (clear_refused e), λ e. let z : ◌≡◌ {A = ℕ} 0 1 = cc in absurd (omega arith))

-- A search for the lowest number refuses nothing where the test is false of every number.
pub at_lowest_clear : (f : ℕ → Bool) (n : ℕ) (r : ℕ → Refusal) → (at_lowest f n r ≡ unrefused) ↔ ((j : ℕ) → j < n → f j ≡ false)
unfolding at_lowest
at_lowest_clear f n r = Iff.trans (refused_at_clear r (lowest f n)) (lowest_none f n)

module _ (f : ℕ → Outcome) where
  first_and_rest : (k m : ℕ) → f k ≡ unrefused → ((i : ℕ) → suc k ≤ i → i < m → f i ≡ unrefused) → (i : ℕ) → k ≤ i → i < m → f i ≡ unrefused
  first_and_rest k m e rest i h l = by_cases (dec_lt k i) (λ s. rest i s l) (λ s. subst (λ (x : ℕ). f x ≡ unrefused) (omega arith) e)

  -- Items gone through in order refuse nothing where none of them does.
  pub in_turn_from_clear : (k n : ℕ) → (in_turn_from f k n ≡ unrefused) ↔ ((i : ℕ) → k ≤ i → i < k + n → f i ≡ unrefused)
  unfolding in_turn_from
  in_turn_from_clear k zero = (λ _ i h l. absurd (omega arith), λ _. refl)
  in_turn_from_clear k (suc n) = Iff.trans (or_else_clear (f k) (in_turn_from f (suc k) n)) (
    λ p. first_and_rest k (k + suc n) p.0 (λ i h l. (in_turn_from_clear (suc k) n).0 p.1 i h (omega arith)),
    λ h. (h k (omega arith) (omega arith), (in_turn_from_clear (suc k) n).1 (λ i a b. h i (omega arith) (omega arith))),
  )

  pub in_turn_clear : (n : ℕ) → (in_turn f n ≡ unrefused) ↔ ((i : ℕ) → i < n → f i ≡ unrefused)
  unfolding in_turn
  in_turn_clear n = Iff.trans (in_turn_from_clear 0 n) (λ h i l. h i (omega arith) (omega arith), λ h i z l. h i (omega arith))

  -- Items that refuse: the first that does, those before it refusing nothing.
  turns_refused : (k n : ℕ) (r : Refusal) → in_turn_from f k n ≡ Err r
      → (i : ℕ) × (k ≤ i) × (i < k + n) × ((j : ℕ) → k ≤ j → j < i → f j ≡ unrefused) × (f i ≡ Err r)
  unfolding in_turn_from
  turns_refused k zero r e = absurd (clear_refused (sym e))
  turns_refused k (suc n) r e =
      ⊎_elim
      (λ h. (k, (omega arith), (omega arith), (λ j a b. absurd (omega arith)), h))
      (λ h.
      let p = turns_refused (suc k) n r h.1 in
      let low = p.1 in
      let high = p.2 in
      (p.0, (omega arith), (omega arith), first_and_rest k p.0 h.0 p.3, p.4))
      (or_else_refused (f k) (in_turn_from f (suc k) n) r e)

  pub in_turn_refused : (n : ℕ) (r : Refusal) → in_turn f n ≡ Err r → (i : ℕ) × (i < n) × ((j : ℕ) → j < i → f j ≡ unrefused) × (f i ≡ Err r)
  unfolding in_turn
  in_turn_refused n r e =
      let p = turns_refused 0 n r e in
      let high = p.2 in
      (p.0, (omega arith), (λ j l. p.3 j (omega arith) l), p.4)

  -- The other way round: the first that refuses, those before it refusing nothing, is the answer.
  pub in_turn_first : (n i : ℕ) → i < n → ((j : ℕ) → j < i → f j ≡ unrefused) → (r : Refusal) → f i ≡ Err r → in_turn f n ≡ Err r
  unfolding in_turn in_turn_from ◌or_else◌
  in_turn_first n i l lower r e = go n 0 (omega arith) (omega arith)
    where
      go : (n k : ℕ) → k ≤ i → i < k + n → in_turn_from f k n ≡ Err r
      go zero k low high = absurd (omega arith)
      go (suc n) k low high =
          by_cases (dec_lt k i)
          (λ h. ap (λ x. x or_else in_turn_from f (suc k) n) (lower k h) ∙ go n (suc k) (omega arith) (omega arith))
          (λ h. let here : k ≡ i = omega arith in ap (λ x. x or_else in_turn_from f (suc k) n) (ap f here ∙ e))

  -- A loop over the items below n begins with item 0.
  pub turn_first : (n : ℕ) → in_turn f n ≡ in_turn_from f 0 (n - 0)
  unfolding in_turn
  turn_first n = let whole : n - 0 ≡ n = omega arith in rw whole refl

  -- When it is at k it has the items from k on to go through: it takes up item k,
  pub turn_next : (k n : ℕ) → k < n → in_turn_from f k (n - k) ≡ (f k or_else in_turn_from f (k + 1) (n - (k + 1)))
  unfolding in_turn_from
  turn_next k n h = let left : n - k ≡ suc (n - (k + 1)) = omega arith in rw (left, add-one) refl

  -- or it comes to the end.
  pub turn_end : (k n : ℕ) → n ≤ k → in_turn_from f k (n - k) ≡ unrefused
  turn_end k n h = (in_turn_from_clear k (n - k)).1 (λ i a b. absurd (omega arith))
