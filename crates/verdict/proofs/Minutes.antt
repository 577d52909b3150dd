-- Minutes of the week: how far a number is after another one, windows by it, and the verdict on two lines. Assumes nothing.
use Prim.Native.Nat.{ℕ, ◌+◌, ◌*◌, ◌-◌, ◌/◌, ◌%◌, ◌≤◌, ◌<◌}
use native.Mathlib.Nat.{div-add-mod'}
use native.Mathlib.Decide.{dec_lt}
use native.Mathlib.Omega.{arith}
use mathlib.Core.Path.{◌≡◌, sym, ap, ap₂, ◌∙◌}
use mathlib.Core.Bool.{true}
use mathlib.Core.Logic.Iff
use mathlib.Core.Logic.{◌↔◌, inl, inr, ⊎_elim, by_cases}
use lib.IntN.{ℤ, pos, sub_ℕ, ◌+ℤ◌, ◌-ℤ◌}
use borrow.Author.Tests.{lt-ltb, le-ltb, ltb-true}
use Rattle.cltlb.specs.Week.{week, minute_of, in_window}
use Rattle.cltlb.proofs.Fits.{Ends}
use Rattle.cltlb.proofs.Week.{minute_below, between, over_the_end}
use Rattle.fields.proofs.Differences.{by_sub, sub_pos, sub_neg, sub_same, sub-add, sub_negate, pos_sub}
use Rattle.verdict.specs.Lines.{Line, on_pass}
use Rattle.verdict.specs.Divisors.{gcd}
use Rattle.verdict.specs.Weeks.{minutes_after, within, judge_spaced, judge_within}
use Rattle.verdict.specs.declared.Verdict.TheVariants.{AlwaysTrue, AlwaysFalse, Changes}
use Rattle.verdict.proofs.Passes.{means_iff}
use Rattle.verdict.proofs.Decisions.{lifted, by_lifted, lifted_pass, Decides, Judges}
use Rattle.verdict.proofs.Euclid.{common_step}
use Rattle.verdict.proofs.Residues.{below_means}

-- ---- the minute of a difference

pub minute_sub : (a b : ℕ) → minute_of (sub_ℕ a b) ≡ (a + b * 10079) % 10080
unfolding minute_of
minute_sub a b =
    by_cases (dec_lt a b)
    (λ l. rw (sub_neg a b l) (omega arith))
    (λ l. rw (sub_pos a b (omega arith)) (omega arith))

-- as the code finds it
pub minute_ahead : (a b : ℕ) → b ≤ a → (a - b) % 10080 ≡ minute_of (sub_ℕ a b)
minute_ahead a b h = rw (minute_sub a b) (omega arith)

pub minute_back : (a b : ℕ) → a < b → 10079 - (b - a - 1) % 10080 ≡ minute_of (sub_ℕ a b)
minute_back a b h = rw (minute_sub a b) (omega arith)

-- One bias for both numbers does not matter.
pub after_bias : (a b B : ℕ) → minutes_after (sub_ℕ a B) (sub_ℕ b B) ≡ minute_of (sub_ℕ a b)
unfolding minutes_after
after_bias a b B =
    ap minute_of (ap (λ z. sub_ℕ a B +ℤ z) (sub_negate b B) ∙ sub-add a B B b ∙ sub_same (a + B) (B + b) a b (omega arith))

-- ---- windows

after_pos : (from : ℕ) → from < 10080 → (z : ℤ) → minutes_after z (pos from) ≡ (minute_of z + (10080 - from)) % 10080
unfolding minutes_after
after_pos from h = by_sub (λ z. minutes_after z (pos from) ≡ (minute_of z + (10080 - from)) % 10080) (λ a b.
    ap minute_of (ap (λ n. sub_ℕ a b -ℤ n) (pos_sub from) ∙ ap (λ n. sub_ℕ a b +ℤ n) (sub_negate from 0) ∙ sub-add a b 0 from)
    ∙ minute_sub (a + 0) (b + from)
    ∙ turn a b
    ∙ ap (λ (m : ℕ). (m + (10080 - from)) % 10080) (sym (minute_sub a b)))
  where
    turn : (a b : ℕ) → (a + 0 + (b + from) * 10079) % 10080 ≡ ((a + b * 10079) % 10080 + (10080 - from)) % 10080
    turn a b = omega arith

minute_of_minute : (m : ℕ) → m < 10080 → minute_of (pos m) ≡ m
unfolding minute_of
minute_of_minute m h = omega arith

-- A number is in the window where it is less after the window's beginning than the window's end is.
pub window_within : (from to : ℕ) → Ends from to → (z : ℤ) → (minutes_after z (pos from) < minutes_after (pos to) (pos from)) ↔ (in_window from to z ≡ true)
window_within from to w z =
    let f = w.from_fits in
    let t = w.to_fits in
    let d = w.differ in
    let m = minute_below z in
    rw (after_pos from f z, after_pos from f (pos to), minute_of_minute to t)
    (by_cases (dec_lt from to)
    (λ a. let b = between from to z a in (λ l. b.1 (omega arith, omega arith), λ i. let p = b.0 i in let g = p.0 in let h = p.1 in omega arith))
    (λ a. let b = over_the_end from to z (omega arith) in (
      λ l. b.1 (by_cases (dec_lt (minute_of z) to) inr (λ c. inl (omega arith))),
      λ i. ⊎_elim (λ (g : from ≤ minute_of z). omega arith) (λ (g : minute_of z < to). omega arith) (b.0 i),
    )))

-- ---- the verdict on two lines

pub within_decides : (n : ℕ) → Decides (within n) (λ a b. minutes_after a b < n)
unfolding Decides
within_decides n a b = (ltb-true (minutes_after a b) n, lt-ltb (minutes_after a b) n)

module _ (a d b e : ℕ) where
  -- how far the one line is after the other on a pass
  pub after_pass : (k : ℕ) → minute_of (sub_ℕ (a + k * d) (b + k * e)) ≡ (minute_of (sub_ℕ a b) + k * minute_of (sub_ℕ d e)) % week
  after_pass k = minute_sub (a + k * d) (b + k * e) ∙ ap (λ (m : ℕ). m % 10080) spread ∙ turns (a + b * 10079) (d + e * 10079) ∙ sym both
    where
      spread : a + k * d + (b + k * e) * 10079 ≡ a + b * 10079 + k * (d + e * 10079)
      spread = omega arith

      turns : (x y : ℕ) → (x + k * y) % 10080 ≡ (x % 10080 + k * (y % 10080)) % 10080
      turns x y = let h : k * (y / 10080 * 10080 + y % 10080) ≡ k * y = ap (λ (z : ℕ). k * z) (div-add-mod' y 10080) in
          weeks (x + k * y) (x % 10080 + k * (y % 10080)) (x / 10080 + k * (y / 10080)) (omega (arith, div-add-mod' x 10080))
        where
          weeks : (m n v : ℕ) → m ≡ n + v * 10080 → m % 10080 ≡ n % 10080
          weeks m n v e = omega arith

      both : (minute_of (sub_ℕ a b) + k * minute_of (sub_ℕ d e)) % 10080 ≡ ((a + b * 10079) % 10080 + k * ((d + e * 10079) % 10080)) % 10080
      both = ap₂ (λ (x y : ℕ). (x + k * y) % 10080) (minute_sub a b) (minute_sub d e)

-- How far a line is after another on a pass.
pub after_on_pass : (x y : Line) (k : ℕ)
    → minutes_after (on_pass x k) (on_pass y k) ≡ (minutes_after x.at y.at + k * minutes_after x.step y.step) % week
after_on_pass = by_lifted (λ x y. (k : ℕ) → minutes_after (on_pass x k) (on_pass y k) ≡ (minutes_after x.at y.at + k * minutes_after x.step y.step) % week)
    (λ B D a d b e k. rw (after_bias a b B, after_bias d e D)
    (ap₂ minutes_after (lifted_pass B D a d k) (lifted_pass B D b e k) ∙ after_bias (a + k * d) (b + k * e) (B + k * D) ∙ after_pass a d b e k))

pub within_judges : (n : ℕ) → Judges (judge_within n) (λ a b. minutes_after a b < n)
unfolding Judges judge_within
within_judges n x y =
    let d = minutes_after x.step y.step in
    means_iff _ _ _ (λ k. rw (after_on_pass x y k) Iff.rfl) (below_means d (gcd week d) (common_step d) (minutes_after x.at y.at) n)

-- as the code finds it, s being the first minutes after, m those of the steps, and g the spacing
pub within_spaced : (n B D a d b e : ℕ) {m s g : ℕ} → m ≡ minute_of (sub_ℕ d e) → g ≡ gcd week m → s ≡ minute_of (sub_ℕ a b)
    → judge_spaced n g (s % g) ≡ judge_within n (lifted B D a d) (lifted B D b e)
unfolding judge_within
within_spaced n B D a d b e em eg es = simp (after_bias a b B, after_bias d e D, ← es, ← em, ← eg)

module _ (n g least : ℕ) where
  pub spaced_none : n ≤ least → AlwaysFalse ≡ judge_spaced n g least
  unfolding judge_spaced
  spaced_none h = simp (le-ltb least n h)

  pub spaced_all : least < n → least + (week - g) < n → AlwaysTrue ≡ judge_spaced n g least
  unfolding judge_spaced
  spaced_all h l = simp (lt-ltb least n h, lt-ltb (least + (week - g)) n l)

  pub spaced_some : least < n → n ≤ least + (week - g) → Changes ≡ judge_spaced n g least
  unfolding judge_spaced
  spaced_some h l = simp (lt-ltb least n h, le-ltb (least + (week - g)) n l)
