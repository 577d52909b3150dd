-- Tops as the code reads them, and what is seen of a value under one. Assumes nothing.
use Prim.Native.Nat.{ℕ, ◌+◌, ◌*◌, ◌-◌, ◌≤◌, ◌<◌}
use native.Mathlib.Decide.{dec_lt}
use native.Mathlib.Omega.{arith}
use mathlib.Core.Path.{◌≡◌, refl, sym, ap, ◌∙◌}
use mathlib.Core.Bool.{Bool, true, false, cond, not, ◌&&◌, false≢true}
use mathlib.Core.List.{List}
use mathlib.Core.Logic.{by_cases}
use lib.IntN.{ℤ, pos}
use lib.ListN.{take, drop}
use lib.Signed.{non_neg}
use lib.Dec.{leb}
use borrow.Author.Tests.{le-leb, lt-leb, ne_eqb}
use Rattle.cltlb.specs.Run.{Seen, number, pinned, is_top, is_pinned, under}
use Rattle.cltlb.proofs.Pinned.{no_top_pins_nothing}
use Rattle.fields.specs.inner.Biased.{bias, unbiased}
use Rattle.fields.proofs.Differences.{sub_pos, sub_neg}
use Rattle.plan.specs.Layout.{channels, sizes_length, head_length, entry, tops, top_of, negative_top, tops_fit}
use Rattle.plan.specs.inner.Lifted.{value_bias, lowered}
use Rattle.plan.specs.inner.Sizes.{sizes_in, Fitting}
use Rattle.plan.specs.declared.sizes.Sizes.{Sizes}

-- ---- tops as they are read

module _ (array : List ℕ) (channel n : ℕ) (e : unbiased n ≡ entry array channel) where
  pub top_seen : leb bias n ≡ not (negative_top array channel)
  unfolding negative_top
  top_seen =
      by_cases (dec_lt n bias)
      (λ h. lt-leb bias n h ∙ ap (λ (z : ℤ). not (not (non_neg z))) (sym (sub_neg n bias h) ∙ e))
      (λ h. le-leb bias n (omega arith) ∙ ap (λ (z : ℤ). not (not (non_neg z))) (sym (sub_pos n bias (omega arith)) ∙ e))

-- The tops are the part that is handed on.
module _ (plan : List ℕ) {v : ℕ} (v_is : v ≡ channels plan) (a b : ℕ) (f : a ≡ sizes_length) (g : b ≡ head_length v) where
  pub tops_part : take (b - a) (drop a plan) ≡ tops plan
  unfolding tops
  tops_part = let k : b - a ≡ 4 * v = omega arith in rw (k, f, v_is) refl

-- What is found of that part, with the sizes that were read.
pub tops_handed : (plan : List ℕ) {z : Sizes} → z ≡ sizes_in plan → {a b : ℕ} → a ≡ sizes_length → b ≡ head_length z.channels → {r : Bool} → r ≡ tops_fit (take (b - a) (drop a plan)) z.channels → r ≡ tops_fit (tops plan) z.channels
tops_handed plan {z} e {a} {b} f g h = rw (← tops_part plan (ap (λ (y : Sizes). y.channels) e) a b f g) h

module _ {plan : List ℕ} {z : Sizes} (fits : Fitting plan z) where
  -- what is read of a top is not below 0
  module _ (channel n : ℕ) (h : channel < z.channels) {t : List ℕ} (same : t ≡ tops plan) (e : unbiased n ≡ entry t channel) where
    top_is : unbiased n ≡ top_of plan channel
    unfolding top_of
    top_is = rw (← same) e

    pub top_lifted : bias ≤ n
    top_lifted =
        by_cases (dec_lt n bias)
        (λ l. absurd (false≢true (ap non_neg (sym (sub_neg n bias l) ∙ top_is) ∙ fits.no_negative channel h)))
        (λ l. omega arith)

    pub top_read : pos (n - bias) ≡ top_of plan channel
    top_read = sym (sub_pos n bias top_lifted) ∙ top_is

-- ---- what is seen of a value under a top

pub no_top : (z : ℤ) → under (pos 0) z ≡ number z
no_top = no_top_pins_nothing

module _ (top value : ℕ) where
  pub under_none : top ≡ 0 → number (lowered value) ≡ under (pos top) (lowered value)
  under_none h = rw h (sym (no_top_pins_nothing (lowered value)))

  pub under_below : value < top + value_bias → number (lowered value) ≡ under (pos top) (lowered value)
  unfolding under is_pinned
  under_below h =
      by_cases (dec_lt value value_bias)
      (λ l. rw (sub_neg value value_bias l) (blank (is_top (pos top))))
      (λ l. rw (sub_pos value value_bias (omega arith)) (simp (lt-leb top (value - value_bias) (omega arith)) (blank (is_top (pos top)))))
    where
      blank : {z : ℤ} (b : Bool) → number z ≡ cond (b && false) pinned (number z)
      blank true = refl
      blank false = refl

  pub under_above : (top ≡ 0 → ⊥) → top + value_bias ≤ value → pinned ≡ under (pos top) (lowered value)
  unfolding under is_pinned is_top
  under_above g h =
      rw (sub_pos value value_bias (omega arith)) (simp (ne_eqb top 0 g, le-leb top (value - value_bias) (omega arith)))

-- What is seen under the top that is read is what is seen under the channel's.
pub sees_under : (plan : List ℕ) (channel top value : ℕ) {x s : Seen} → x ≡ under (pos top) (lowered value) → pos top ≡ top_of plan channel
    → under (top_of plan channel) (lowered value) ≡ s → x ≡ s
sees_under plan channel top value e f g = e ∙ ap (λ (z : ℤ). under z (lowered value)) f ∙ g
