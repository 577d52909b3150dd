-- Tests made in order: the first refusal that applies. Assumes nothing.
use Rattle.std.specs.Prelude.{Ok, Err, ℕ, zero, suc, Bool, true, false}
use Rattle.std.proofs.Math.Option.{Option, none, some}
use Rattle.refusal.specs.Lowest.{lowest}
use Rattle.refusal.specs.declared.Refusal.{Refusal}
use Rattle.refusal.specs.Outcome.{Outcome, unrefused}

infixr 5 ◌or_else◌
-- the refusal of the first test, or where that refuses nothing, of the second
unfoldable pub ◌or_else◌ : Outcome → Outcome → Outcome
(Ok _) or_else next = next
(Err r) or_else next = Err r

-- refused where the condition is not met
unfoldable pub unless : Bool → Refusal → Outcome
unless true r = unrefused
unless false r = Err r

-- refused at the number found, if one is
unfoldable pub refused_at : (ℕ → Refusal) → Option ℕ → Outcome
refused_at r none = unrefused
refused_at r (some k) = Err (r k)

-- refused at the lowest number below n at which the test is true
unfoldable pub at_lowest : (ℕ → Bool) → ℕ → (ℕ → Refusal) → Outcome
at_lowest f n r = refused_at r (lowest f n)

-- the first refusal of the n items from k on, gone through in order
unfoldable pub in_turn_from : (ℕ → Outcome) → ℕ → ℕ → Outcome
in_turn_from f k zero = unrefused
in_turn_from f k (suc n) = f k or_else in_turn_from f (suc k) n

-- the first refusal of the items below n, the lowest first
unfoldable pub in_turn : (ℕ → Outcome) → ℕ → Outcome
in_turn f n = in_turn_from f 0 n
