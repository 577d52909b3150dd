-- Windows of the week, by the sentences of document 02 that their definition has to meet. Assumes nothing.
use Prim.Native.Nat.{ℕ, suc, ◌+◌, ◌*◌, ◌/◌, ◌≤◌, ◌<◌}
use native.Mathlib.Decide.{dec_lt}
use native.Mathlib.Omega.{arith}
use mathlib.Core.Path.{◌≡◌, refl}
use mathlib.Core.Bool.{true, false≢true}
use mathlib.Core.Logic.{◌↔◌, ◌⊎◌, inl, inr, ⊎_elim, by_cases}
use lib.IntN.{ℤ, pos, negsuc}
use borrow.Author.Tests.{lt-ltb, le-ltb, le-leb, lt-leb}
use Rattle.cltlb.specs.Week.{minute_of, in_window}

-- ---- the minute is the remainder by 10080, taken from 0 upward

pub minute_below : (z : ℤ) → minute_of z < 10080
unfolding minute_of
minute_below (pos n) = omega arith
minute_below (negsuc n) = omega arith

-- A number is so many weeks and its minute; a number below 0, which is -(n + 1), is its minute less so many weeks.
pub minute_of_pos : (n : ℕ) → n ≡ n / 10080 * 10080 + minute_of (pos n)
unfolding minute_of
minute_of_pos n = omega arith

pub minute_of_negsuc : (n : ℕ) → minute_of (negsuc n) + suc n ≡ (n / 10080 + 1) * 10080
unfolding minute_of
minute_of_negsuc n = omega arith

-- ---- the window

module _ (from to : ℕ) (z : ℤ) where
  pub between : from < to → (in_window from to z ≡ true) ↔ ((from ≤ minute_of z) × (minute_of z < to))
  unfolding in_window
  between h =
      by_cases (dec_lt (minute_of z) from)
      (λ a. simp (lt-ltb from to h, lt-leb from (minute_of z) a) (λ e. absurd (false≢true e), λ p. absurd (let l = p.0 in omega arith)))
      (λ a. by_cases (dec_lt (minute_of z) to)
      (λ b. simp (lt-ltb from to h, le-leb from (minute_of z) (omega arith), lt-ltb (minute_of z) to b) (λ e. (omega arith, b), λ p. refl))
      (λ b. simp (lt-ltb from to h, le-leb from (minute_of z) (omega arith), le-ltb (minute_of z) to (omega arith)) (λ e. absurd (false≢true e), λ p. absurd (let l = p.1 in omega arith))))

  pub over_the_end : to < from → (in_window from to z ≡ true) ↔ ((from ≤ minute_of z) ⊎ (minute_of z < to))
  unfolding in_window
  over_the_end h =
      by_cases (dec_lt (minute_of z) from)
      (λ a. by_cases (dec_lt (minute_of z) to)
      (λ b. simp (le-ltb from to (omega arith), lt-leb from (minute_of z) a, lt-ltb (minute_of z) to b) (λ e. inr b, λ p. refl))
      (λ b. simp (le-ltb from to (omega arith), lt-leb from (minute_of z) a, le-ltb (minute_of z) to (omega arith)) (λ e. absurd (false≢true e), λ p. absurd (⊎_elim (λ (l : from ≤ minute_of z). omega arith) (λ (l : minute_of z < to). omega arith) p))))
      (λ a. simp (le-ltb from to (omega arith), le-leb from (minute_of z) (omega arith)) (λ e. inl (omega arith), λ p. refl))

  pub from_belongs : (from ≡ to → ⊥) → minute_of z ≡ from → in_window from to z ≡ true
  from_belongs d e = by_cases (dec_lt from to) (λ h. (between h).1 (omega arith, omega arith)) (λ h. (over_the_end (omega arith)).1 (inl (omega arith)))

  pub to_does_not : (from ≡ to → ⊥) → minute_of z ≡ to → in_window from to z ≡ true → ⊥
  to_does_not d e i =
      by_cases (dec_lt from to)
      (λ h. let p = (between h).0 i in let l = p.1 in omega arith)
      (λ h. ⊎_elim (λ (l : from ≤ minute_of z). omega arith) (λ (l : minute_of z < to). omega arith) ((over_the_end (omega arith)).0 i))
