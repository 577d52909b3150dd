-- The greatest common divisor of the week and a step divides both, and is, but for whole weeks, a multiple of the step. Assumes
-- nothing.
use Prim.Native.Nat.{ℕ, zero, suc, ◌+◌, ◌*◌, ◌/◌, ◌%◌, ◌∣◌, ◌≤◌, ◌<◌}
use native.Mathlib.Nat.{div-add-mod', mod-lt, dvd_refl, dvd-zero, dvd-mod_iff}
use native.Mathlib.Decide.{dec_lt}
use native.Mathlib.Omega.{arith}
use mathlib.Core.Path.{◌≡◌, refl, sym, ap, ◌∙◌, subst}
use mathlib.Core.Logic.{by_cases}
use borrow.Author.Tests.{ne_eqb}
use Rattle.cltlb.specs.Week.{week}
use Rattle.verdict.specs.Divisors.{euclid, gcd}

-- ---- rounds

pub round_end : (n a b : ℕ) → b ≡ 0 → euclid n a b ≡ a
unfolding euclid
round_end zero a b e = refl
round_end (suc n) a b e = simp (e)

round : (n a b : ℕ) → 0 < b → euclid (suc n) a b ≡ euclid n b (a % b)
unfolding euclid
round n a b h = simp (ne_eqb b 0 (λ e. omega arith))

-- More rounds than are enough give the same.
enough : (m n a b : ℕ) → b ≤ m → b ≤ n → euclid m a b ≡ euclid n a b
enough zero n a b h k = round_end zero a b (omega arith) ∙ sym (round_end n a b (omega arith))
enough (suc m) zero a b h k = round_end (suc m) a b (omega arith) ∙ sym (round_end zero a b (omega arith))
enough (suc m) (suc n) a b h k =
    by_cases (dec_lt 0 b)
    (λ l. let r = mod-lt a l in round m a b l ∙ enough m n b (a % b) (omega arith) (omega arith) ∙ sym (round n a b l))
    (λ l. round_end (suc m) a b (omega arith) ∙ sym (round_end (suc n) a b (omega arith)))

pub gcd_end : (a b : ℕ) → b ≡ 0 → gcd a b ≡ a
unfolding gcd
gcd_end a b e = round_end b a b e

pub gcd_on : (a b : ℕ) → 0 < b → gcd a b ≡ gcd b (a % b)
unfolding gcd
gcd_on a zero h = absurd (omega arith)
gcd_on a (suc b) h = let r = mod-lt a h in round b a (suc b) h ∙ enough b (a % suc b) (suc b) (a % suc b) (omega arith) (omega arith)

-- ---- what it is

-- x is, but for whole weeks, a multiple of the step
pub record Turns (d x : ℕ) : Type 0 where
  pub turns : ℕ
  pub weeks : ℕ
  pub more : ℕ
  pub is : x + weeks * week ≡ turns * d + more * week

pub record CommonStep (d g : ℕ) : Type 0 where
  pub of_week : g ∣ week
  pub of_step : g ∣ d
  pub turned : Turns d g

-- what each round keeps of its two numbers
record Kept (d x y : ℕ) : Type 0 where
  left : Turns d x
  right : Turns d y
  both : (c : ℕ) → c ∣ x → c ∣ y → (c ∣ week) × (c ∣ d)

module _ (d : ℕ) where
  kept_first : Kept d week d
  kept_first = record {
    left = record { turns = 0; weeks = 0; more = 1; is = omega arith };
    right = record { turns = 1; weeks = 0; more = 0; is = omega arith };
    both = λ c p q. (p, q);
  }

  kept_on : (x y : ℕ) → Kept d x y → Kept d y (x % y)
  kept_on x y v = record {
    left = v.right;
    right = record {
      turns = v.left.turns + 10079 * (x / y * v.right.turns);
      weeks = v.left.weeks + x / y * y + 10079 * (x / y * v.right.weeks);
      more = v.left.more + 10079 * (x / y * v.right.more);
      is = rest (x / y) (x % y) v.left.turns v.left.weeks v.left.more v.right.turns v.right.weeks v.right.more (div-add-mod' x y) v.left.is v.right.is;
    };
    both = λ c p q. v.both c ((dvd-mod_iff c p).0 q) p;
  }
    where
      rest : (q r t s m u w n : ℕ) → q * y + r ≡ x → x + s * 10080 ≡ t * d + m * 10080 → y + w * 10080 ≡ u * d + n * 10080
          → r + (s + q * y + 10079 * (q * w)) * 10080 ≡ (t + 10079 * (q * u)) * d + (m + 10079 * (q * n)) * 10080
      rest q r t s m u w n e f g = let h : q * (y + w * 10080) ≡ q * (u * d + n * 10080) = ap (λ (z : ℕ). q * z) g in omega arith

  kept_end : (x y : ℕ) → y ≡ 0 → Kept d x y → CommonStep d x
  kept_end x y e v =
      let b = v.both x (dvd_refl x) (subst (λ (z : ℕ). x ∣ z) (sym e) (dvd-zero x)) in
      record { of_week = b.0; of_step = b.1; turned = v.left }

  rounds : (n x y : ℕ) → y ≤ n → Kept d x y → CommonStep d (euclid n x y)
  rounds zero x y h v = rw (round_end zero x y (omega arith)) (kept_end x y (omega arith) v)
  rounds (suc n) x y h v =
      by_cases (dec_lt 0 y)
      (λ l. let r = mod-lt x l in rw (round n x y l) (rounds n y (x % y) (omega arith) (kept_on x y v)))
      (λ l. rw (round_end (suc n) x y (omega arith)) (kept_end x y (omega arith) v))

  pub common_step : CommonStep d (gcd week d)
  unfolding gcd
  common_step = rounds d week d (omega arith) kept_first
