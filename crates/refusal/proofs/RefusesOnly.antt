-- Outcomes whose refusals all meet a condition, such as their numbers and that two bytes hold the part and the row that they
-- name. Assumes nothing.
use Rattle.std.specs.Prelude.{Ok, Err}
use Prim.Native.Nat.{ℕ, zero, suc, ◌+◌, ◌≤◌, ◌<◌}
use native.Mathlib.Omega.{arith}
use mathlib.Core.Path.{◌≡◌, refl, subst}
use mathlib.Core.Bool.{Bool, true, false}
use mathlib.Core.Option.{Option, none, some}
use mathlib.Core.Logic.{⊎_elim}
use Rattle.refusal.specs.Report.{report_of}
use Rattle.refusal.specs.Lowest.{lowest, lowest_from}
use Rattle.refusal.specs.First.{◌or_else◌, unless, refused_at, at_lowest, in_turn_from, in_turn}
use Rattle.refusal.specs.declared.Refusal.{Refusal}
use Rattle.refusal.specs.Outcome.{Outcome, unrefused}
use Rattle.refusal.proofs.Lowest.{from_some}
use Rattle.refusal.proofs.First.{or_else_refused}

-- two bytes hold the part and the row
abbrev pub Small : Refusal → Type 0
Small r = ((report_of r).part < 65536) × ((report_of r).row < 65536)

-- the number is from lo to hi, and two bytes hold the part and the row
abbrev pub Within : ℕ → ℕ → Refusal → Type 0
Within lo hi r = (lo ≤ (report_of r).number) × ((report_of r).number ≤ hi) × ((report_of r).part < 65536) × ((report_of r).row < 65536)

module _ (P : Refusal → Type 0) where
  -- an outcome whose refusal, if it has one, meets the condition
  unfoldable pub RefusesOnly : Outcome → Type 0
  RefusesOnly (Ok _) = Unit {0}
  RefusesOnly (Err r) = P r

  pub refused_only : (o : Outcome) → RefusesOnly o → (r : Refusal) → o ≡ Err r → P r
  unfolding RefusesOnly
  refused_only o h r e = subst RefusesOnly e h

  pub only_by : (o : Outcome) → ((r : Refusal) → o ≡ Err r → P r) → RefusesOnly o
  unfolding RefusesOnly
  only_by (Ok _) h = tt
  only_by (Err r) h = h r refl

  -- the second test counts only where the first refuses nothing
  pub or_else_only : (x y : Outcome) → RefusesOnly x → (x ≡ unrefused → RefusesOnly y) → RefusesOnly (x or_else y)
  unfolding RefusesOnly ◌or_else◌
  or_else_only (Ok _) y h k = k refl
  or_else_only (Err r) y h k = h

  pub unless_only : (b : Bool) (r : Refusal) → P r → RefusesOnly (unless b r)
  unfolding RefusesOnly unless
  unless_only true r h = tt
  unless_only false r h = h

  pub search_only : (f : ℕ → Bool) (k n : ℕ) (r : ℕ → Refusal) → ((j : ℕ) → k ≤ j → j < k + n → P (r j)) → RefusesOnly (refused_at r (lowest_from f k n))
  unfolding RefusesOnly refused_at
  search_only f k n r h = go (lowest_from f k n) refl
    where
      go : (o : Option ℕ) → lowest_from f k n ≡ o → RefusesOnly (refused_at r o)
      go none e = tt
      go (some j) e = let p = (from_some f k n j).0 e in h j p.0 p.1

  pub at_lowest_only : (f : ℕ → Bool) (n : ℕ) (r : ℕ → Refusal) → ((j : ℕ) → j < n → P (r j)) → RefusesOnly (at_lowest f n r)
  unfolding at_lowest lowest
  at_lowest_only f n r h = search_only f 0 n r (λ j low high. h j (omega arith))

  turns_only : (f : ℕ → Outcome) (k n : ℕ) → ((i : ℕ) → k ≤ i → i < k + n → RefusesOnly (f i)) → RefusesOnly (in_turn_from f k n)
  unfolding in_turn_from RefusesOnly
  turns_only f k zero h = tt
  turns_only f k (suc n) h =
      or_else_only (f k) (in_turn_from f (suc k) n) (h k (omega arith) (omega arith)) (λ _. turns_only f (suc k) n (λ i low high. h i (omega arith) (omega arith)))

  pub in_turn_only : (f : ℕ → Outcome) (n : ℕ) → ((i : ℕ) → i < n → RefusesOnly (f i)) → RefusesOnly (in_turn f n)
  unfolding in_turn
  in_turn_only f n h = turns_only f 0 n (λ i low high. h i (omega arith))

  -- Of two tests, a refusal that the first one cannot have is the second one's.
  pub or_else_second : (x y : Outcome) (r : Refusal) → RefusesOnly x → ¬ P r → x or_else y ≡ Err r → (x ≡ unrefused) × (y ≡ Err r)
  or_else_second x y r h n e = ⊎_elim (λ d. absurd (n (refused_only x h r d))) (λ p. p) (or_else_refused x y r e)

-- A condition that follows from another one.
pub only_more : (P Q : Refusal → Type 0) → ((r : Refusal) → P r → Q r) → (o : Outcome) → RefusesOnly P o → RefusesOnly Q o
only_more P Q f o h = only_by Q o (λ r e. f r (refused_only P o h r e))

pub within_small : (lo hi : ℕ) (o : Outcome) → RefusesOnly (Within lo hi) o → RefusesOnly Small o
within_small lo hi = only_more (Within lo hi) Small (λ r h. (h.2, h.3))

-- The numbers are within wider bounds.
pub within_wider : (lo hi low high : ℕ) → low ≤ lo → hi ≤ high → (o : Outcome) → RefusesOnly (Within lo hi) o → RefusesOnly (Within low high) o
within_wider lo hi low high h l =
    only_more (Within lo hi) (Within low high) (λ r w. let a = w.0 in let b = w.1 in (omega arith, omega arith, w.2, w.3))
