-- Whether a walk enters the first places of a lap: seen in a mirror, in one go where no step passes over them, and by the
-- walk of its laps. Assumes nothing.
use Prim.Native.Nat.{ℕ, ◌+◌, ◌*◌, ◌-◌, ◌/◌, ◌%◌, ◌≤◌, ◌<◌}
use native.Mathlib.Nat.{mul-add, mul-le-mul, mul-le-mul_right, mul-le-mul_left, lt_of_mul-lt-mul_right, div-add-mod', mod-lt, div-mul-le_self, lt-div-mul-add}
use native.Mathlib.Decide.{dec_lt}
use native.Mathlib.Omega.{arith}
use mathlib.Core.Path.{◌≡◌, sym, ap, ◌∙◌, subst}
use mathlib.Core.Bool.{true, false, false≢true}
use mathlib.Core.Logic.{◌↔◌, by_cases}
use lib.Dec.{leb}
use borrow.Author.Tests.{le-leb, leb-true}
use Rattle.verdict.specs.inner.Walks.{Enters}
use Rattle.verdict.specs.declared.laps.Walk.{Walk}

abbrev pub walk : ℕ → ℕ → ℕ → ℕ → Walk
walk m a d n = record { lap = m; at = a; step = d; passes = n }

-- k times a number in two parts
parts : (k x y z : ℕ) → x ≡ y + z → k * x ≡ k * y + k * z
parts k x y z e = ap (λ (u : ℕ). k * u) e ∙ mul-add k y z

-- two numbers in parts, times k
sums : (k x y u v : ℕ) → x + y ≡ u + v → x * k + y * k ≡ u * k + v * k
sums k x y u v e = let h : (x + y) * k ≡ (u + v) * k = ap (λ (i : ℕ). i * k) e in omega arith

-- In a mirror.
mirror : (m a d n len : ℕ) → a < m → d ≤ m → len ≤ a → 1 ≤ len → Enters (walk m a d n) len → Enters (walk m (m + len - 1 - a) (m - d) n) len
mirror m a d n len ha hd hl h1 w = record {
  pass = k;
  laps = k + 1 - j;
  early = w.early;
  reached = omega (arith, low, high, lap, step);
  short = omega (arith, low, high, lap, step);
}
  where
    k : ℕ
    k = w.pass

    j : ℕ
    j = w.laps

    low : j * m ≤ a + k * d
    low = w.reached

    high : a + k * d < j * m + len
    high = w.short

    j_le : j < k + 1
    j_le = lt_of_mul-lt-mul_right m (omega (arith, low, mul-le-mul_left {m = d} {n = m} k hd))

    lap : j * m + (k + 1 - j) * m ≡ k * m + 1 * m
    lap = sums m j (k + 1 - j) k 1 (omega (arith, j_le))

    step : k * m ≡ k * d + k * (m - d)
    step = parts k m d (m - d) (omega arith)

pub mirrored : (m a d n len : ℕ) → a < m → d ≤ m → len ≤ a → 1 ≤ len → Enters (walk m (m + len - 1 - a) (m - d) n) len ↔ Enters (walk m a d n) len
mirrored m a d n len ha hd hl h1 = (
  λ w. subst (λ (x : ℕ). Enters (walk m x d n) len) back_at (subst (λ (x : ℕ). Enters (walk m (m + len - 1 - (m + len - 1 - a)) x n) len) back_step
      (mirror m (m + len - 1 - a) (m - d) n len (omega arith) (omega arith) (omega arith) h1 w)),
  mirror m a d n len ha hd hl h1,
)
  where
    back_at : m + len - 1 - (m + len - 1 - a) ≡ a
    back_at = omega arith

    back_step : m - (m - d) ≡ d
    back_step = omega arith

-- From a place at or behind `len` it takes a lap to get there.
lap_on : (m a d n len : ℕ) → len ≤ a → (w : Enters (walk m a d n) len) → 0 < w.laps
lap_on m a d n len hl w =
    by_cases (dec_lt 0 w.laps) (λ h. h)
    (λ h. absurd (none w.laps (omega arith) w.short))
  where
    none : (j : ℕ) → j ≡ 0 → a + w.pass * d < j * m + len → ⊥
    none j e h = let z : j * m ≡ 0 * m = ap (λ (x : ℕ). x * m) e in omega arith

-- No step passes over the first places: it is there once a lap is done.
pub straight : (m a d n len : ℕ) → a < m → len ≤ a → d ≤ len → 1 ≤ n → (m ≤ a + (n - 1) * d) ↔ Enters (walk m a d n) len
straight m a d n len ha hl hd hn = (λ h. by_cases (dec_lt 0 d) (there h) (λ z. absurd (still h (omega arith))), back)
  where
    still : m ≤ a + (n - 1) * d → d ≡ 0 → ⊥
    still h e = let z : (n - 1) * d ≡ (n - 1) * 0 = ap (λ (x : ℕ). (n - 1) * x) e in omega arith

    there : m ≤ a + (n - 1) * d → 0 < d → Enters (walk m a d n) len
    there h l = record {
      pass = k;
      laps = 1;
      early = lt_of_mul-lt-mul_right d (omega (arith, below, sums d (n - 1) 1 n 0 (omega arith)));
      reached = omega (arith, above);
      short = omega (arith, below);
    }
      where
        k : ℕ
        k = (m - a + d - 1) / d

        below : k * d ≤ m - a + d - 1
        below = div-mul-le_self (m - a + d - 1) d

        above : m - a + d - 1 < k * d + d
        above = lt-div-mul-add l

    back : Enters (walk m a d n) len → m ≤ a + (n - 1) * d
    back w =
        let e = w.early in
        let r = w.reached in
        let one : 1 * m ≤ w.laps * m = mul-le-mul_right m (lap_on m a d n len hl w) in
        let last : w.pass * d ≤ (n - 1) * d = mul-le-mul_right d (omega arith) in
        omega arith

-- The walk of the laps. With e the way from the beginning of a lap back to a multiple of the step, the place at which the
-- walk first stands behind the beginning of a lap moves by e, taken by the step, from each lap to the next.
module _ (m a d n len e c b p J : ℕ) (ha : a < m) (hl : len ≤ a) (hd : len ≤ d) (hn : 1 ≤ n)
    (he : m + e ≡ c * d) (hp : a + e ≡ b * d + p) (from_j : J * m ≤ a + (n - 1) * d) (to_j : a + (n - 1) * d < J * m + m) where
  -- j × (m + e), by the step
  turns : (j : ℕ) → (j * c) * d ≡ j * m + j * e
  turns j = let h : j * (m + e) ≡ j * (c * d) = ap (λ (x : ℕ). j * x) he in omega arith

  to_laps : Enters (walk m a d n) len → Enters (walk d p e J) len
  to_laps w = record {
    pass = j - 1;
    laps = i;
    early = omega (arith, j_le, j_on);
    reached = omega (arith, low, way, turns j, last);
    short = omega (arith, high, way, turns j, last);
  }
    where
      k : ℕ
      k = w.pass

      j : ℕ
      j = w.laps

      low : j * m ≤ a + k * d
      low = w.reached

      high : a + k * d < j * m + len
      high = w.short

      j_on : 0 < j
      j_on = lap_on m a d n len hl w

      last : j * e ≡ (j - 1) * e + 1 * e
      last = let h : (j - 1) * e + 1 * e ≡ j * e + 0 * e = sums e (j - 1) 1 j 0 (omega (arith, j_on)) in omega arith

      k_le : k * d ≤ (n - 1) * d
      k_le = let h = w.early in mul-le-mul_right d (omega arith)

      j_le : j < J + 1
      j_le = lt_of_mul-lt-mul_right m (omega (arith, low, k_le))

      room : b + k < j * c + 1
      room = lt_of_mul-lt-mul_right d (omega (arith, turns j, high, last))

      i : ℕ
      i = j * c - (b + k)

      way : (b + k) * d + i * d ≡ (j * c) * d + 0 * d
      way = sums d (b + k) i (j * c) 0 (omega (arith, room))

  from_laps : Enters (walk d p e J) len → Enters (walk m a d n) len
  from_laps w = record {
    pass = k;
    laps = j + 1;
    early = lt_of_mul-lt-mul_right d (omega (arith, low, high, way, turns (j + 1), most, sums d (n - 1) 1 n 0 (omega arith)));
    reached = omega (arith, low, way, turns (j + 1));
    short = omega (arith, high, way, turns (j + 1));
  }
    where
      i : ℕ
      i = w.laps

      j : ℕ
      j = w.pass

      low : i * d ≤ p + j * e
      low = w.reached

      high : p + j * e < i * d + len
      high = w.short

      most : (j + 1) * m ≤ J * m
      most = let h = w.early in mul-le-mul_right m (omega arith)

      room : b + i < (j + 1) * c
      room = lt_of_mul-lt-mul_right d (omega (arith, turns (j + 1), low))

      k : ℕ
      k = (j + 1) * c - (b + i)

      way : (b + i) * d + k * d ≡ ((j + 1) * c) * d + 0 * d
      way = sums d (b + i) k ((j + 1) * c) 0 (omega (arith, room))

  pub by_laps : Enters (walk d p e J) len ↔ Enters (walk m a d n) len
  by_laps = (from_laps, to_laps)

-- ---- for the code

module _ (m a d n len : ℕ) (ha : a < m) (hl : len ≤ a) (hd : len < d) (hn : 1 ≤ n) where
  pub back_fits : m % d ≤ d
  back_fits = let h : m % d < d = mod-lt m (omega arith) in omega arith

  pub laps_right : Enters (walk d ((a + (d - m % d)) % d) (d - m % d) ((a + (n - 1) * d) / m)) len ↔ Enters (walk m a d n) len
  laps_right =
      by_laps m a d n len (d - m % d) (m / d + 1) ((a + (d - m % d)) / d) ((a + (d - m % d)) % d) ((a + (n - 1) * d) / m) ha hl (omega arith) hn
      (omega (arith, div-add-mod' m d, back_fits))
      (sym (div-add-mod' (a + (d - m % d)) d))
      (div-mul-le_self (a + (n - 1) * d) m)
      (lt-div-mul-add (omega arith))

  pub laps_fewer : d ≤ m → (a + (n - 1) * d) / m < n
  laps_fewer h = lt_of_mul-lt-mul_right m (omega (arith, div-mul-le_self (a + (n - 1) * d) m, mul-le-mul_left {m = d} {n = m} (n - 1) h, sums m (n - 1) 1 n 0 (omega arith)))

-- the products of the code are small
pub small_way : (n d : ℕ) → n ≤ 10080 → d ≤ 10080 → (n - 1) * d ≤ 10080 * 10080
small_way n d h l = mul-le-mul {n₁ = n - 1} {m₁ = d} {n₂ = 10080} {m₂ = 10080} (omega arith) l

pub enters_none : (w : Walk) (len : ℕ) → w.passes ≤ 0 → (false ≡ true) ↔ Enters w len
enters_none w len h = (λ e. absurd (false≢true e), λ i. let l = i.early in absurd (omega arith))

pub enters_now : (w : Walk) (len : ℕ) → 0 < w.passes → w.at < len → Enters w len
enters_now w len h l = record { pass = 0; laps = 0; early = h; reached = omega arith; short = omega arith }

pub test_le : (x y : ℕ) → (leb x y ≡ true) ↔ (x ≤ y)
test_le x y = (leb-true x y, le-leb x y)
