-- The relations that a comparison asks of two numbers and of what is seen of two terms: their tests are right, and so are the verdicts on
-- two lines. Assumes nothing.
use Prim.Native.Nat.{ℕ, ◌<◌}
use native.Mathlib.Omega.{arith}
use mathlib.Core.Path.{◌≡◌, refl, sym}
use mathlib.Core.Bool.{Bool, true, false, cond, false≢true}
use mathlib.Core.Logic.Iff
use mathlib.Core.Logic.{◌↔◌}
use lib.IntN.{ℤ}
use lib.Signed.{◌<ℤ◌}
use Rattle.cltlb.specs.Run.{Seen, number, pinned, before_run, is_pinned, under}
use Rattle.cltlb.specs.Truth.{Compared}
use Rattle.cltlb.proofs.Pinned.{no_number}
use Rattle.verdict.specs.Comparisons.{test_of, of_number, of_numbers, seen_pinned, tested, judge_lines}
use Rattle.verdict.specs.Weeks.{minutes_after}
use Rattle.verdict.specs.declared.Relation.{Relation}
use Rattle.verdict.specs.declared.Relation.TheVariants.{Below, Same, Within, Pinned}
use Rattle.verdict.proofs.Passes.{PassMeans}
use Rattle.verdict.proofs.Decisions.{Decides, lt_decides, eq_decides, Judges, less_judges, equal_judges}
use Rattle.verdict.proofs.Minutes.{within_decides, within_judges}

-- of two numbers, neither of which is pinned
abbrev pub Relates : Relation → ℤ → ℤ → Type 0
Relates Below = ◌<ℤ◌
Relates Same = ◌≡◌
Relates (Within n) = λ a b. minutes_after a b < n
Relates Pinned = λ a b. ⊥

-- of what is seen
abbrev pub SeenRelates : Relation → Seen → Seen → Type 0
SeenRelates Below = Compared (Relates Below)
SeenRelates Same = Compared (Relates Same)
SeenRelates (Within n) = Compared (Relates (Within n))
SeenRelates Pinned = λ a b. a ≡ pinned

-- ---- two numbers

tells : (relation : Relation) → Decides (test_of relation) (Relates relation)
unfolding Decides
tells Below = lt_decides
tells Same = eq_decides
tells (Within n) = within_decides n
tells Pinned = λ a b. (λ e. false≢true e, λ h. absurd h)

pub judges : (relation : Relation) → Judges (judge_lines relation) (Relates relation)
unfolding Judges PassMeans
judges Below = less_judges
judges Same = equal_judges
judges (Within n) = within_judges n
judges Pinned = λ x y k h. h

-- ---- what is seen

-- The test is that of the two numbers where they are seen,
pub test_numbers : (relation : Relation) (a b : ℤ) → tested relation (number a) (number b) ≡ test_of relation a b
unfolding of_number of_numbers seen_pinned tested
test_numbers Below a b = refl
test_numbers Same a b = refl
test_numbers (Within n) a b = refl
test_numbers Pinned a b = refl

-- and fails where only the left one is, or nothing is seen of it.
pub test_one : (relation : Relation) (a : ℤ) → (tested relation (number a) pinned ≡ false) × (tested relation (number a) before_run ≡ false)
unfolding of_number of_numbers seen_pinned tested
test_one Below a = (refl, refl)
test_one Same a = (refl, refl)
test_one (Within n) a = (refl, refl)
test_one Pinned a = (refl, refl)

pub test_before : (relation : Relation) (b : Seen) → tested relation before_run b ≡ false
unfolding of_number of_numbers seen_pinned tested
test_before Below b = refl
test_before Same b = refl
test_before (Within n) b = refl
test_before Pinned b = refl

-- Where the left one is pinned the test holds of the relation that asks it, and of no other.
pub asks_pinned : (relation : Relation) → relation ≡ Pinned → (b : Seen) → true ≡ tested relation pinned b
unfolding seen_pinned tested
asks_pinned relation e b = rw e refl

pub asks_other : (relation : Relation) → (relation ≡ Pinned → ⊥) → (b : Seen) → false ≡ tested relation pinned b
unfolding of_number of_numbers tested
asks_other Below h b = refl
asks_other Same h b = refl
asks_other (Within n) h b = refl
asks_other Pinned h b = absurd (h refl)

-- No number is seen before the run.
before_number : (a : ℤ) → before_run ≡ number a → ⊥
before_number a e = let z : ◌≡◌ {A = ℕ} 0 1 = cc in absurd (omega arith)

before_pinned : before_run ≡ pinned → ⊥
before_pinned e = let z : ◌≡◌ {A = ℕ} 0 1 = cc in absurd (omega arith)

pub same_number : {m n : ℤ} → number m ≡ number n → m ≡ n
same_number e = cc

module _ (R : ℤ → ℤ → Type 0) where
  -- Two numbers that are seen.
  pub two_numbers : (a b : ℤ) → Compared R (number a) (number b) ↔ R a b
  unfolding Compared
  two_numbers a b = (λ h. rw (same_number h.2, same_number h.3) h.4, λ r. (a, b, refl, refl, r))

  no_left : (b : Seen) → (Compared R pinned b → ⊥) × (Compared R before_run b → ⊥)
  unfolding Compared
  no_left b = (λ h. no_number h.0 h.2, λ h. before_number h.0 h.2)

  no_right : (a : Seen) → (Compared R a pinned → ⊥) × (Compared R a before_run → ⊥)
  unfolding Compared
  no_right a = (λ h. no_number h.1 h.3, λ h. before_number h.1 h.3)

  -- The test of what is seen tells whether it is two numbers that stand in the relation.
  numbers_decide : (test : ℤ → ℤ → Bool) → Decides test R → (a b : Seen) → (of_numbers test a b ≡ true) ↔ Compared R a b
  unfolding Decides of_number of_numbers
  numbers_decide test e (number a) (number b) = Iff.trans (e a b) (Iff.symm (two_numbers a b))
  numbers_decide test e (number a) pinned = (λ t. absurd (false≢true t), λ h. absurd ((no_right (number a)).0 h))
  numbers_decide test e (number a) before_run = (λ t. absurd (false≢true t), λ h. absurd ((no_right (number a)).1 h))
  numbers_decide test e pinned b = (λ t. absurd (false≢true t), λ h. absurd ((no_left b).0 h))
  numbers_decide test e before_run b = (λ t. absurd (false≢true t), λ h. absurd ((no_left b).1 h))

  -- Two values under tops are compared where neither is pinned.
  pub numbers_under : (s a t b : ℤ) → ((is_pinned s a ≡ false) × (is_pinned t b ≡ false) × R a b) ↔ Compared R (under s a) (under t b)
  unfolding under
  numbers_under s a t b = by_tests (is_pinned s a) (is_pinned t b)
    where
      by_tests : (p q : Bool) → ((p ≡ false) × (q ≡ false) × R a b) ↔ Compared R (cond p pinned (number a)) (cond q pinned (number b))
      by_tests false false = Iff.trans (λ h. h.2, λ r. (refl, refl, r)) (Iff.symm (two_numbers a b))
      by_tests false true = (λ h. absurd (false≢true (sym h.1)), λ h. absurd ((no_right (number a)).0 h))
      by_tests true q = (λ h. absurd (false≢true (sym h.0)), λ h. absurd ((no_left (cond q pinned (number b))).0 h))

pinned_decides : (a : Seen) → (seen_pinned a ≡ true) ↔ (a ≡ pinned)
unfolding seen_pinned
pinned_decides (number a) = (λ t. absurd (false≢true t), λ e. absurd (no_number a (sym e)))
pinned_decides pinned = (λ _. refl, λ _. refl)
pinned_decides before_run = (λ t. absurd (false≢true t), λ e. absurd (before_pinned e))

pub pinned_under : (top z : ℤ) → (is_pinned top z ≡ true) ↔ (under top z ≡ pinned)
unfolding under
pinned_under top z = by_test (is_pinned top z)
  where
    by_test : (p : Bool) → (p ≡ true) ↔ (cond p pinned (number z) ≡ pinned)
    by_test true = (λ _. refl, λ _. refl)
    by_test false = (λ t. absurd (false≢true t), λ e. absurd (no_number z (sym e)))

-- The test of what is seen of two terms tells whether they stand in the relation.
pub tested_decides : (relation : Relation) (a b : Seen) → (tested relation a b ≡ true) ↔ SeenRelates relation a b
unfolding tested
tested_decides Below = numbers_decide (Relates Below) (test_of Below) (tells Below)
tested_decides Same = numbers_decide (Relates Same) (test_of Same) (tells Same)
tested_decides (Within n) = numbers_decide (Relates (Within n)) (test_of (Within n)) (tells (Within n))
tested_decides Pinned = λ a b. pinned_decides a
