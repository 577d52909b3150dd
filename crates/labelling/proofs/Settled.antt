-- Settled parts: the parts below any one close, by the marks made, exactly where they are settled. Assumes nothing.
use mathlib.Core.Path.{◌≡◌, subst}
use mathlib.Core.Bool.{true}
use mathlib.Core.List.{List}
use mathlib.Core.Logic.{by_cases}
use Prim.Native.Nat.{ℕ, zero, suc, ◌≤◌, ◌<◌}
use native.Mathlib.Nat.{not-suc-le-zero}
use native.Mathlib.Decide.{dec_lt}
use native.Mathlib.Omega.{arith}
use Rattle.cltlb.specs.Fits.{view_fits}
use Rattle.cltlb.specs.declared.View.{View}
use Rattle.plan.specs.Layout.{cycle_rows}
use Rattle.marks.specs.Meaning.{PartSettled}
use Rattle.marks.proofs.Accepted.{true_settled}
use Rattle.labelling.specs.Labels.{made_mark}
use Rattle.labelling.proofs.Made.{Closed, lower_true, closes_settled}

module _ (plan : List ℕ) (some_cycle : 1 ≤ cycle_rows plan) (parts : ℕ → View) (v n : ℕ)
    (fits : (i : ℕ) → i < n → view_fits v i (parts i) ≡ true) where
  -- part i closes, by the marks made
  abbrev Closes : ℕ → Type 0
  Closes = Closed plan some_cycle parts v n fits

  -- Parts that close, with all parts below them, are settled.
  pub closed_settled : (i : ℕ) → i ≤ n → ((a : ℕ) → a < i → Closed plan some_cycle parts v n fits a)
      → (a : ℕ) → a < i → PartSettled parts plan a
  closed_settled i few closed a l =
      true_settled plan some_cycle parts n (made_mark parts plan) a (lower_true plan some_cycle parts v n fits i few closed a l).0

  -- Parts that are settled, with all parts below them, close.
  pub settled_closed : (i : ℕ) → i ≤ n → ((a : ℕ) → a < i → PartSettled parts plan a)
      → (a : ℕ) → a < i → Closed plan some_cycle parts v n fits a
  settled_closed zero few settled a l = absurd (not-suc-le-zero l)
  settled_closed (suc i) few settled a l =
      let lower = settled_closed i (omega arith) (λ b q. settled b (omega arith)) in
      by_cases (dec_lt a i) (λ q. lower a q)
      (λ q. let e : i ≡ a = omega arith in subst Closes e ((closes_settled plan some_cycle parts v n fits i few lower).1 (settled i (omega arith))))
