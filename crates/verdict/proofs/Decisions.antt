-- The verdicts on two lines are right on every pass. Two numbers are written with one bias, so that the comparison of
-- two lines on a pass is one of natural numbers. Assumes nothing.
use Prim.Native.Nat.{ℕ, suc, ◌+◌, ◌*◌, ◌-◌, ◌/◌, ◌%◌, ◌≤◌, ◌<◌}
use native.Mathlib.Nat.{mul-add, mul-suc, zero-mul, one-mul, mul-le-mul_left, div-add-mod', mul-mod_left}
use native.Mathlib.Decide.{dec_lt, ℕ_discrete}
use native.Mathlib.Omega.{arith}
use mathlib.Core.Path.{◌≡◌, refl, sym, ap, ◌∙◌, subst}
use mathlib.Core.Bool.{Bool, true, false, cond, not, ◌&&◌, false≢true}
use mathlib.Core.Logic.Iff
use mathlib.Core.Logic.{◌↔◌, by_cases}
use lib.Dec.{T, ltb, leb, eqb}
use lib.IntN.{ℤ, pos, negsuc, sub_ℕ, nat_abs, ◌+ℤ◌, ◌-ℤ◌, pos-ne-negsuc}
use lib.Signed.{◌<ℤ◌, lt_z, le_z}
use borrow.Author.Tests.{lt-ltb, le-ltb, le-leb, lt-leb, eq-eqb, ne_eqb, eqb-true, ltb-true}
use Rattle.fields.proofs.Differences.{by_sub, sub_same, sub_pos, sub-add, sub_line, sub_negate, sub_lt, sub_eq}
use Rattle.verdict.specs.Lines.{Line, on_pass, eq_z, judge_less, meets, judge_equal}
use Rattle.verdict.specs.declared.Verdict.{Verdict}
use Rattle.verdict.specs.declared.Verdict.TheVariants.{AlwaysTrue, AlwaysFalse, Changes}
use Rattle.verdict.proofs.Passes.{PassMeans, means_iff}

-- ---- tests of two integers

-- A test tells whether two integers stand in a relation.
unfoldable pub Decides : (ℤ → ℤ → Bool) → (ℤ → ℤ → Type 0) → Type 0
Decides test R = (a b : ℤ) → (test a b ≡ true) ↔ R a b

pub T_true : (b : Bool) → T b ↔ (b ≡ true)
T_true true = (λ _. refl, λ _. tt)
T_true false = (λ h. absurd h, λ e. false≢true e)

pub lt_decides : Decides lt_z ◌<ℤ◌
unfolding Decides
lt_decides a b = (λ e. record { lt = (T_true (lt_z a b)).1 e }, λ h. (T_true (lt_z a b)).0 h.lt)

pub eq_decides : Decides eq_z ◌≡◌
unfolding Decides
eq_decides (pos a) (pos b) = (λ e. ap pos (eqb-true a b e), λ e. eq-eqb a b (cc))
eq_decides (pos a) (negsuc b) = (λ e. absurd (false≢true e), λ e. absurd (pos-ne-negsuc a b e))
eq_decides (negsuc a) (pos b) = (λ e. absurd (false≢true e), λ e. absurd (pos-ne-negsuc b a (sym e)))
eq_decides (negsuc a) (negsuc b) = (λ e. ap negsuc (eqb-true a b e), λ e. eq-eqb a b (cc))

-- At most is not above.
not_above : (a b : ℕ) → leb a b ≡ not (ltb b a)
not_above a b =
    by_cases (dec_lt b a)
    (λ l. simp (lt-leb a b l, lt-ltb b a l))
    (λ l. simp (le-leb a b (omega arith), le-ltb b a (omega arith)))

pub le_test : (a b : ℤ) → le_z a b ≡ not (lt_z b a)
le_test (pos a) (pos b) = not_above a b
le_test (pos a) (negsuc b) = refl
le_test (negsuc a) (pos b) = refl
le_test (negsuc a) (negsuc b) = not_above b a

-- ---- two integers with one bias

-- What holds of two numbers with one bias holds of two integers.
pub by_bias {ℓ} : (F : ℤ → ℤ → Type ℓ) → ((a b B : ℕ) → F (sub_ℕ a B) (sub_ℕ b B)) → (y z : ℤ) → F y z
by_bias F f y z =
    by_sub (λ y. F y z) (λ a p. by_sub (λ z. F (sub_ℕ a p) z) (λ b q.
    rw (sub_same a p (a + q) (p + q) (omega arith), sub_same b q (b + p) (p + q) (omega arith)) (f (a + q) (b + p) (p + q))) z) y

-- Two tests of one statement.
pub same_test : (x y : Bool) → (x ≡ true) ↔ (y ≡ true) → x ≡ y
same_test true true e = refl
same_test true false e = sym (e.0 refl)
same_test false true e = e.1 refl
same_test false false e = refl

module _ (a b B : ℕ) where
  pub bias_lt : (sub_ℕ a B <ℤ sub_ℕ b B) ↔ (a < b)
  bias_lt = Iff.trans (sub_lt a B b B) (λ h. omega arith, λ h. omega arith)

  pub bias_eq : (sub_ℕ a B ≡ sub_ℕ b B) ↔ (a ≡ b)
  bias_eq = Iff.trans (sub_eq a B b B) (λ h. omega arith, λ h. omega arith)

  pub bias_lt_z : lt_z (sub_ℕ a B) (sub_ℕ b B) ≡ ltb a b
  unfolding Decides
  bias_lt_z = same_test (lt_z (sub_ℕ a B) (sub_ℕ b B)) (ltb a b)
      (Iff.trans (lt_decides (sub_ℕ a B) (sub_ℕ b B)) (Iff.trans bias_lt (lt-ltb a b, ltb-true a b)))

  pub bias_eq_z : eq_z (sub_ℕ a B) (sub_ℕ b B) ≡ eqb a b
  unfolding Decides
  bias_eq_z = same_test (eq_z (sub_ℕ a B) (sub_ℕ b B)) (eqb a b)
      (Iff.trans (eq_decides (sub_ℕ a B) (sub_ℕ b B)) (Iff.trans bias_eq (eq-eqb a b, eqb-true a b)))

  pub bias_gap : b ≤ a → nat_abs (sub_ℕ a B -ℤ sub_ℕ b B) ≡ a - b
  bias_gap h = ap nat_abs (ap (λ z. sub_ℕ a B +ℤ z) (sub_negate b B) ∙ sub-add a B B b ∙ sub_pos (a + B) (B + b) (omega arith)) ∙ omega arith

pub bias_le_z : (a b B : ℕ) → le_z (sub_ℕ a B) (sub_ℕ b B) ≡ leb a b
bias_le_z a b B = le_test (sub_ℕ a B) (sub_ℕ b B) ∙ ap not (bias_lt_z b a B) ∙ sym (not_above a b)

-- ---- two lines with one bias for the numbers and one for the steps

abbrev pub lifted : ℕ → ℕ → ℕ → ℕ → Line
lifted B D a d = record { at = sub_ℕ a B; step = sub_ℕ d D }

-- What holds of two lines with common biases holds of two lines.
pub by_lifted {ℓ} : (F : Line → Line → Type ℓ) → ((B D a d b e : ℕ) → F (lifted B D a d) (lifted B D b e)) → (x y : Line) → F x y
by_lifted F f x y =
    by_bias (λ m n. F (record { at = m; step = x.step }) (record { at = n; step = y.step })) (λ a b B.
    by_bias (λ m n. F (record { at = sub_ℕ a B; step = m }) (record { at = sub_ℕ b B; step = n })) (λ d e D. f B D a d b e) x.step y.step) x.at y.at

module _ (B D a d : ℕ) where
  pub lifted_pass : (k : ℕ) → on_pass (lifted B D a d) k ≡ sub_ℕ (a + k * d) (B + k * D)
  unfolding on_pass
  lifted_pass k = sub_line a B d D k

-- the gain of a steeper line, over k passes
pub gap : (k : ℕ) {d e : ℕ} → e ≤ d → k * d ≡ k * e + k * (d - e)
gap k {d} {e} h = ap (λ (x : ℕ). k * x) (omega arith) ∙ mul-add k e (d - e)

gain : (k : ℕ) {d e : ℕ} → e < d → k * e + k ≤ k * d
gain k {d} {e} h = subst (λ (x : ℕ). x ≤ k * d) (mul-suc k e) (mul-le-mul_left k h)

module _ (B D a d b e : ℕ) where
  pub pass_lt : (k : ℕ) → (a + k * d < b + k * e) ↔ (on_pass (lifted B D a d) k <ℤ on_pass (lifted B D b e) k)
  pass_lt k = rw (lifted_pass B D a d k, lifted_pass B D b e k) (Iff.symm (bias_lt (a + k * d) (b + k * e) (B + k * D)))

  pass_eq : (k : ℕ) → (a + k * d ≡ b + k * e) ↔ (on_pass (lifted B D a d) k ≡ on_pass (lifted B D b e) k)
  pass_eq k = rw (lifted_pass B D a d k, lifted_pass B D b e k) (Iff.symm (bias_eq (a + k * d) (b + k * e) (B + k * D)))

  -- less, case by case
  pub less_until : a < b → e < d → judge_less (lifted B D a d) (lifted B D b e) ≡ Changes
  unfolding judge_less
  less_until h g = simp (bias_lt_z a b B, lt-ltb a b h, bias_lt_z e d D, lt-ltb e d g)

  pub less_always : a < b → d ≤ e → judge_less (lifted B D a d) (lifted B D b e) ≡ AlwaysTrue
  unfolding judge_less
  less_always h g = simp (bias_lt_z a b B, lt-ltb a b h, bias_lt_z e d D, le-ltb e d g)

  pub less_later : b ≤ a → d < e → judge_less (lifted B D a d) (lifted B D b e) ≡ Changes
  unfolding judge_less
  less_later h g = simp (bias_lt_z a b B, le-ltb a b h, bias_lt_z d e D, lt-ltb d e g)

  pub less_never : b ≤ a → e ≤ d → judge_less (lifted B D a d) (lifted B D b e) ≡ AlwaysFalse
  unfolding judge_less
  less_never h g = simp (bias_lt_z a b B, le-ltb a b h, bias_lt_z d e D, le-ltb d e g)

  less_right : PassMeans (judge_less (lifted B D a d) (lifted B D b e)) (λ k. a + k * d < b + k * e)
  unfolding PassMeans
  less_right =
      by_cases (dec_lt a b)
      (λ h. by_cases (dec_lt e d)
      (λ g. rw (less_until h g) ((0, omega (arith, zero-mul d, zero-mul e)), (b, λ l. omega (arith, gain b g))))
      (λ g. rw (less_always h (omega arith)) (λ k. omega (arith, mul-le-mul_left {m = d} {n = e} k (omega arith)))))
      (λ h. by_cases (dec_lt d e)
      (λ g. rw (less_later (omega arith) g) ((suc a, omega (arith, gain (suc a) g)), (0, λ l. omega (arith, zero-mul d, zero-mul e))))
      (λ g. rw (less_never (omega arith) (omega arith)) (λ k l. omega (arith, mul-le-mul_left {m = e} {n = d} k (omega arith)))))

  -- x is below y: it meets it where its gain on each pass divides the gap
  pub meets_once : a < b → e < d → (b - a) % (d - e) ≡ 0 → meets (lifted B D a d) (lifted B D b e) ≡ true
  unfolding meets
  meets_once h g z = simp (bias_lt_z e d D, lt-ltb e d g, bias_gap b a B (omega arith), bias_gap d e D (omega arith), z)

  pub meets_over : a < b → e < d → ((b - a) % (d - e) ≡ 0 → ⊥) → meets (lifted B D a d) (lifted B D b e) ≡ false
  unfolding meets
  meets_over h g z = simp (bias_lt_z e d D, lt-ltb e d g, bias_gap b a B (omega arith), bias_gap d e D (omega arith), ne_eqb ((b - a) % (d - e)) 0 z)

  pub meets_apart : d ≤ e → meets (lifted B D a d) (lifted B D b e) ≡ false
  unfolding meets
  meets_apart g = simp (bias_lt_z e d D, le-ltb e d g)

  approach : a < b → PassMeans (cond (meets (lifted B D a d) (lifted B D b e)) Changes AlwaysFalse) (λ k. a + k * d ≡ b + k * e)
  unfolding PassMeans
  approach h =
      by_cases (dec_lt e d)
      (λ g. by_cases (ℕ_discrete ((b - a) % (d - e)) 0)
      (λ z. rw (meets_once h g z) (
        ((b - a) / (d - e), omega (arith, gap ((b - a) / (d - e)) {d = d} {e = e} (omega arith), div-add-mod' (b - a) (d - e))),
        (0, λ l. omega (arith, zero-mul d, zero-mul e)),
      ))
      (λ z. rw (meets_over h g z) (λ k l. z (ap (λ (n : ℕ). n % (d - e)) (steps k g l) ∙ mul-mod_left k (d - e)))))
      (λ g. rw (meets_apart (omega arith)) (λ k l. omega (arith, mul-le-mul_left {m = d} {n = e} k (omega arith))))
    where
      steps : (k : ℕ) → e < d → a + k * d ≡ b + k * e → b - a ≡ k * (d - e)
      steps k g l = omega (arith, gap k {d = d} {e = e} (omega arith))

module _ (B D a d b e : ℕ) where
  -- equal, case by case
  pub equal_below : a < b → judge_equal (lifted B D a d) (lifted B D b e) ≡ cond (meets (lifted B D a d) (lifted B D b e)) Changes AlwaysFalse
  unfolding judge_equal
  equal_below h = simp (bias_lt_z a b B, lt-ltb a b h)

  pub equal_above : b < a → judge_equal (lifted B D a d) (lifted B D b e) ≡ cond (meets (lifted B D b e) (lifted B D a d)) Changes AlwaysFalse
  unfolding judge_equal
  equal_above h = simp (bias_lt_z a b B, le-ltb a b (omega arith), bias_lt_z b a B, lt-ltb b a h)

  pub equal_always : a ≡ b → d ≡ e → judge_equal (lifted B D a d) (lifted B D b e) ≡ AlwaysTrue
  unfolding judge_equal
  equal_always h g = simp (bias_lt_z a b B, le-ltb a b (omega arith), bias_lt_z b a B, le-ltb b a (omega arith), bias_eq_z d e D, eq-eqb d e g)

  pub equal_once : a ≡ b → (d ≡ e → ⊥) → judge_equal (lifted B D a d) (lifted B D b e) ≡ Changes
  unfolding judge_equal
  equal_once h g = simp (bias_lt_z a b B, le-ltb a b (omega arith), bias_lt_z b a B, le-ltb b a (omega arith), bias_eq_z d e D, ne_eqb d e g)

  -- and by which of the two is behind
  pub below_meets : a < b → cond (ltb e d && eqb ((b - a) % (d - e)) 0) Changes AlwaysFalse ≡ judge_equal (lifted B D a d) (lifted B D b e)
  below_meets h =
      by_cases (dec_lt e d)
      (λ g. by_cases (ℕ_discrete ((b - a) % (d - e)) 0)
      (λ z. rw (lt-ltb e d g, eq-eqb ((b - a) % (d - e)) 0 z, equal_below h, meets_once B D a d b e h g z) refl)
      (λ z. rw (lt-ltb e d g, ne_eqb ((b - a) % (d - e)) 0 z, equal_below h, meets_over B D a d b e h g z) refl))
      (λ g. rw (le-ltb e d (omega arith), equal_below h, meets_apart B D a d b e (omega arith)) refl)

  approach_from : b < a → PassMeans (cond (meets (lifted B D b e) (lifted B D a d)) Changes AlwaysFalse) (λ k. a + k * d ≡ b + k * e)
  approach_from h = means_iff _ _ _ (λ k. (sym, sym)) (approach B D b e a d h)

  equal_right : PassMeans (judge_equal (lifted B D a d) (lifted B D b e)) (λ k. a + k * d ≡ b + k * e)
  unfolding PassMeans
  equal_right =
      by_cases (dec_lt a b)
      (λ h. rw (equal_below h) (approach B D a d b e h))
      (λ h. by_cases (dec_lt b a)
      (λ g. rw (equal_above g) (approach_from g))
      (λ g. by_cases (ℕ_discrete d e)
      (λ z. rw (equal_always (omega arith) z) (λ k. ap (λ (x : ℕ). a + k * x) z ∙ omega arith))
      (λ z. rw (equal_once (omega arith) z) ((0, omega (arith, zero-mul d, zero-mul e)), (1, λ l. z (omega (arith, one-mul d, one-mul e)))))))

-- Two lines, of which the first is above the second at first.
pub above_meets : (B D a d b e : ℕ) → b < a → cond (ltb d e && eqb ((a - b) % (e - d)) 0) Changes AlwaysFalse ≡ judge_equal (lifted B D a d) (lifted B D b e)
above_meets B D a d b e m = below_meets B D b e a d m ∙ equal_below B D b e a d m ∙ sym (equal_above B D a d b e m)

-- ---- the verdicts

-- A verdict on two lines says how they compare on every pass.
unfoldable pub Judges : (Line → Line → Verdict) → (ℤ → ℤ → Type 0) → Type 0
Judges decide R = (x y : Line) → PassMeans (decide x y) (λ k. R (on_pass x k) (on_pass y k))

pub less_judges : Judges judge_less ◌<ℤ◌
unfolding Judges
less_judges = by_lifted (λ x y. PassMeans (judge_less x y) (λ k. on_pass x k <ℤ on_pass y k))
    (λ B D a d b e. means_iff _ _ _ (pass_lt B D a d b e) (less_right B D a d b e))

pub equal_judges : Judges judge_equal ◌≡◌
unfolding Judges
equal_judges = by_lifted (λ x y. PassMeans (judge_equal x y) (λ k. on_pass x k ≡ on_pass y k))
    (λ B D a d b e. means_iff _ _ _ (pass_eq B D a d b e) (equal_right B D a d b e))
