-- The remainders by the week that a number takes which grows by a fixed step: every multiple of the spacing away from the first one,
-- and no other. Assumes nothing.
use Prim.Native.Nat.{ℕ, zero, suc, ◌+◌, ◌*◌, ◌-◌, ◌/◌, ◌%◌, ◌≤◌, ◌<◌}
use native.Mathlib.Nat.{div-add-mod', mod-lt, mod-le, le_of_dvd, pos_of_dvd_of_pos, div-mul_cancel, mod-mod_of_dvd, add-mul-mod_self_right, lt_of_mul-lt-mul_right, mul-le-mul_right}
use native.Mathlib.Decide.{dec_lt}
use native.Mathlib.Omega.{arith}
use mathlib.Core.Path.{◌≡◌, ap, ◌∙◌}
use mathlib.Core.Logic.{by_cases}
use borrow.Author.Tests.{lt-ltb, le-ltb}
use Rattle.cltlb.specs.Week.{week}
use Rattle.verdict.specs.Divisors.{gcd}
use Rattle.verdict.specs.Weeks.{judge_spaced}
use Rattle.verdict.specs.declared.Verdict.TheVariants.{AlwaysTrue, AlwaysFalse, Changes}
use Rattle.verdict.proofs.Passes.{PassMeans}
use Rattle.verdict.proofs.Euclid.{CommonStep, common_step}

module _ (d g : ℕ) (c : CommonStep d g) where
  apart_on : 0 < g
  apart_on = pos_of_dvd_of_pos c.of_week (omega arith)

  apart_le : g ≤ week
  apart_le = le_of_dvd (omega arith) c.of_week

  module _ (a n : ℕ) where
    -- On each pass the remainder is the first one, but for multiples of g.
    low_same : (k : ℕ) → (a + k * d) % 10080 % g ≡ a % g
    low_same k =
        mod-mod_of_dvd g (a + k * d) c.of_week
        ∙ ap (λ (n : ℕ). (a + n) % g) multiple
        ∙ add-mul-mod_self_right a (k * (d / g)) g
      where
        multiple : k * d ≡ k * (d / g) * g
        multiple = let h : k * (d / g * g) ≡ k * d = ap (λ (n : ℕ). k * n) (div-mul_cancel g c.of_step) in omega arith

    -- Each such remainder comes.
    comes : (i : ℕ) → a % g + i * g < 10080 → (k : ℕ) × ((a + k * d) % 10080 ≡ a % g + i * g)
    comes i h = (t * (i + 10079 * (a / g)), by_weeks (a + t * (i + 10079 * (a / g)) * d) (a % g + i * g) (w * (i + 10079 * (a / g)) + a / g * g) (m * (i + 10079 * (a / g))) h sum)
      where
        t : ℕ
        t = c.turned.turns

        w : ℕ
        w = c.turned.weeks

        m : ℕ
        m = c.turned.more

        by_weeks : (x r v u : ℕ) → r < 10080 → x + u * 10080 ≡ r + v * 10080 → x % 10080 ≡ r
        by_weeks x r v u l e = omega arith

        sum : a + t * (i + 10079 * (a / g)) * d + m * (i + 10079 * (a / g)) * 10080 ≡ a % g + i * g + (w * (i + 10079 * (a / g)) + a / g * g) * 10080
        sum = add (a / g) (a % g) (div-add-mod' a g) c.turned.is
          where
            add : (q r : ℕ) → q * g + r ≡ a → g + w * 10080 ≡ t * d + m * 10080
                → a + t * (i + 10079 * q) * d + m * (i + 10079 * q) * 10080 ≡ r + i * g + (w * (i + 10079 * q) + q * g) * 10080
            add q r e f = let p : (i + 10079 * q) * (g + w * 10080) ≡ (i + 10079 * q) * (t * d + m * 10080) = ap (λ (z : ℕ). (i + 10079 * q) * z) f in omega arith

    none_below : n ≤ a % g → PassMeans AlwaysFalse (λ k. (a + k * d) % week < n)
    unfolding PassMeans
    none_below h = λ k l. omega (arith, low_same k, mod-le ((a + k * d) % 10080) g)

    all_below : a % g + (week - g) < n → PassMeans AlwaysTrue (λ k. (a + k * d) % week < n)
    unfolding PassMeans
    all_below h = λ k. top ((a + k * d) % 10080) (omega arith) (low_same k)
      where
        top : (r : ℕ) → r < 10080 → r % g ≡ a % g → r < n
        top r l e =
            let q : r / g < 10080 / g = lt_of_mul-lt-mul_right g (omega (arith, div-add-mod' r g, div-mul_cancel g c.of_week)) in
            let m : (r / g + 1) * g ≤ 10080 / g * g = mul-le-mul_right g (omega arith) in
            omega (arith, div-add-mod' r g, div-mul_cancel g c.of_week)

    some_below : a % g < n → n ≤ a % g + (week - g) → PassMeans Changes (λ k. (a + k * d) % week < n)
    unfolding PassMeans
    some_below h l =
        let low = comes 0 (omega (arith, mod-lt a apart_on, apart_le)) in
        let high = comes (10080 / g - 1) (omega (arith, last, mod-lt a apart_on)) in
        ((low.0, let e = low.1 in omega arith), (high.0, λ m. let e = high.1 in omega (arith, last)))
      where
        last : (10080 / g - 1) * g + g ≡ 10080
        last = below (10080 / g) (div-mul_cancel g c.of_week)
          where
            below : (q : ℕ) → q * g ≡ 10080 → (q - 1) * g + g ≡ 10080
            below zero e = absurd (omega arith)
            below (suc q) e = let m : (suc q - 1) * g ≡ q * g = ap (λ (n : ℕ). n * g) (omega arith) in omega arith

    pub below_means : PassMeans (judge_spaced n g (a % g)) (λ k. (a + k * d) % week < n)
    unfolding judge_spaced
    below_means =
        by_cases (dec_lt (a % g) n)
        (λ h. by_cases (dec_lt (a % g + (week - g)) n)
        (λ l. rw (lt-ltb (a % g) n h, lt-ltb (a % g + (week - g)) n l) (all_below l))
        (λ l. rw (lt-ltb (a % g) n h, le-ltb (a % g + (week - g)) n (omega arith)) (some_below h (omega arith))))
        (λ h. rw (le-ltb (a % g) n (omega arith)) (none_below (omega arith)))

-- the spacing as the code finds it
pub spaced : (d : ℕ) {g : ℕ} → g ≡ gcd week d → (g ≡ gcd week d) × (1 ≤ g) × (g ≤ week)
spaced d e = (e, rw e (apart_on d (gcd week d) (common_step d)), rw e (apart_le d (gcd week d) (common_step d)))
