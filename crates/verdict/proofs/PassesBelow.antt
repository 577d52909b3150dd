-- The stretches of two lines are right: a pass lies in one exactly where the lines compare so on it. Assumes nothing.
use Prim.Native.Nat.{ℕ, ◌+◌, ◌*◌, ◌-◌, ◌/◌, ◌≤◌, ◌<◌}
use native.Mathlib.Nat.{mul-le-mul_left, le-div_iff_mul-le, div-lt_iff_lt-mul}
use native.Mathlib.Decide.{dec_lt}
use native.Mathlib.Omega.{arith}
use mathlib.Core.Path.{◌≡◌, refl, ap, ◌∙◌}
use mathlib.Core.Bool.{true, false}
use mathlib.Core.Logic.Iff
use mathlib.Core.Logic.{◌↔◌, by_cases}
use lib.IntN.{ℤ, sub_ℕ, ◌+ℤ◌}
use lib.Signed.{◌<ℤ◌, lt_z}
use borrow.Author.Tests.{lt-ltb, le-ltb, ltb-true, ltb-false}
use Rattle.fields.proofs.Differences.{pos_sub, sub-add, sub_same}
use Rattle.verdict.specs.Lines.{Line, on_pass, raised}
use Rattle.verdict.specs.Stretches.{has_pass, common, passes_below, passes_at_most, passes_same}
use Rattle.verdict.specs.declared.stretches.Stretch.{Stretch}
use Rattle.verdict.specs.declared.stretches.Stretch.TheVariants.{From, Between}
use Rattle.verdict.proofs.Decisions.{bias_eq, bias_lt_z, bias_gap, lifted, by_lifted, lifted_pass, pass_lt, gap}

-- pass k lies in a stretch
unfoldable pub Lies : Stretch → ℕ → Type 0
Lies (From a) k = a ≤ k
Lies (Between a b) k = (a ≤ k) × (k < b)

-- Some pass lies in a stretch where the test says so.
pub has_pass_lem : (p : Stretch) → (has_pass p ≡ true) ↔ ((k : ℕ) × Lies p k)
unfolding Lies has_pass
has_pass_lem (From a) = (λ _. (a, omega arith), λ _. refl)
has_pass_lem (Between a b) = (λ e. (a, (omega arith, ltb-true a b e)), λ h. let l = h.1 in lt-ltb a b (omega arith))

-- A pass lies in what two stretches have in common where it lies in both.
pub common_lies : (p q : Stretch) (k : ℕ) → Lies (common p q) k ↔ (Lies p k × Lies q k)
unfolding Lies common
common_lies (From a) (From b) k = omega arith
common_lies (From a) (Between b e) k = omega arith
common_lies (Between a d) (From b) k = omega arith
common_lies (Between a d) (Between b e) k = omega arith

-- So where the passes of one are those of a statement, some pass of the other has it where the common stretch has a pass.
pub common_has : (p q : Stretch) (F : ℕ → Type 0) → ((k : ℕ) → Lies p k ↔ F k) → (has_pass (common p q) ≡ true) ↔ ((k : ℕ) × (Lies q k × F k))
common_has p q F f = Iff.trans (has_pass_lem (common p q)) (
  λ h. let both = (common_lies p q h.0).0 h.1 in (h.0, (both.1, (f h.0).0 both.0)),
  λ h. (h.0, (common_lies p q h.0).1 ((f h.0).1 h.1.1, h.1.0)),
)

-- x below y, case by case
module _ (B D a d b e : ℕ) where
  pub below_until : a < b → e < d → passes_below (lifted B D a d) (lifted B D b e) ≡ Between 0 ((b - a - 1) / (d - e) + 1)
  unfolding passes_below
  below_until h g = simp (bias_lt_z a b B, lt-ltb a b h, bias_lt_z e d D, lt-ltb e d g, bias_gap b a B (omega arith), bias_gap d e D (omega arith))

  pub below_always : a < b → d ≤ e → passes_below (lifted B D a d) (lifted B D b e) ≡ From 0
  unfolding passes_below
  below_always h g = simp (bias_lt_z a b B, lt-ltb a b h, bias_lt_z e d D, le-ltb e d g)

  pub below_later : b ≤ a → d < e → passes_below (lifted B D a d) (lifted B D b e) ≡ From ((a - b) / (e - d) + 1)
  unfolding passes_below
  below_later h g = simp (bias_lt_z a b B, le-ltb a b h, bias_lt_z d e D, lt-ltb d e g, bias_gap a b B h, bias_gap e d D (omega arith))

  pub below_never : b ≤ a → e ≤ d → passes_below (lifted B D a d) (lifted B D b e) ≡ Between 0 0
  unfolding passes_below
  below_never h g = simp (bias_lt_z a b B, le-ltb a b h, bias_lt_z d e D, le-ltb d e g)

  below_lifted : (k : ℕ) → Lies (passes_below (lifted B D a d) (lifted B D b e)) k ↔ (a + k * d < b + k * e)
  unfolding Lies
  below_lifted k =
      by_cases (dec_lt a b)
      (λ h. by_cases (dec_lt e d)
      (λ g. rw (below_until h g)
      (let i : (k ≤ (b - a - 1) / (d - e)) ↔ (k * (d - e) ≤ b - a - 1) = le-div_iff_mul-le (omega arith) in
      (λ l. omega (arith, gap k {d = d} {e = e} (omega arith), i.0 (omega arith)), λ l. (omega arith, let m = i.1 (omega (arith, gap k {d = d} {e = e} (omega arith))) in omega arith))))
      (λ g. rw (below_always h (omega arith)) (λ l. omega (arith, mul-le-mul_left {m = d} {n = e} k (omega arith)), λ l. omega arith)))
      (λ h. by_cases (dec_lt d e)
      (λ g. rw (below_later (omega arith) g)
      (let i : ((a - b) / (e - d) < k) ↔ (a - b < k * (e - d)) = div-lt_iff_lt-mul (omega arith) in
      (λ l. omega (arith, gap k {d = e} {e = d} (omega arith), i.0 (omega arith)), λ l. let m = i.1 (omega (arith, gap k {d = e} {e = d} (omega arith))) in omega arith)))
      (λ g. rw (below_never (omega arith) (omega arith)) (λ l. omega arith, λ l. absurd (omega (arith, mul-le-mul_left {m = e} {n = d} k (omega arith))))))

-- A pass lies in the stretch where x is below y on it.
pub below_lies : (x y : Line) (k : ℕ) → Lies (passes_below x y) k ↔ (on_pass x k <ℤ on_pass y k)
below_lies = by_lifted (λ x y. (k : ℕ) → Lies (passes_below x y) k ↔ (on_pass x k <ℤ on_pass y k))
    (λ B D a d b e k. Iff.trans (below_lifted B D a d b e k) (pass_lt B D a d b e k))

-- The line that is higher by 1.
pub raised_lifted : (B D a d : ℕ) → raised (lifted B D a d) ≡ lifted B D (a + 1) d
raised_lifted B D a d =
    ap (λ (z : ℤ). record { at = z; step = sub_ℕ d D })
    (ap (λ (z : ℤ). sub_ℕ a B +ℤ z) (pos_sub 1) ∙ sub-add a B 1 0 ∙ sub_same (a + 1) (B + 0) (a + 1) B (omega arith))

at_most_lifted : (B D a d b e k : ℕ) → Lies (passes_at_most (lifted B D a d) (lifted B D b e)) k ↔ (a + k * d ≤ b + k * e)
unfolding passes_at_most
at_most_lifted B D a d b e k = rw (raised_lifted B D b e) (Iff.trans (below_lifted B D a d (b + 1) e k) (omega arith))

-- A pass lies in the stretch where y is not below x on it.
pub at_most_lies : (x y : Line) (k : ℕ) → Lies (passes_at_most x y) k ↔ (lt_z (on_pass y k) (on_pass x k) ≡ false)
at_most_lies = by_lifted (λ x y. (k : ℕ) → Lies (passes_at_most x y) k ↔ (lt_z (on_pass y k) (on_pass x k) ≡ false))
    (λ B D a d b e k. rw (lifted_pass B D a d k, lifted_pass B D b e k, bias_lt_z (b + k * e) (a + k * d) (B + k * D))
    (Iff.trans (at_most_lifted B D a d b e k) (le-ltb (b + k * e) (a + k * d), ltb-false (b + k * e) (a + k * d))))

-- A pass lies in the stretch where x and y are the same on it.
pub same_lies : (x y : Line) (k : ℕ) → Lies (passes_same x y) k ↔ (on_pass x k ≡ on_pass y k)
unfolding passes_same
same_lies = by_lifted (λ x y. (k : ℕ) → Lies (passes_same x y) k ↔ (on_pass x k ≡ on_pass y k))
    (λ B D a d b e k. rw (lifted_pass B D a d k, lifted_pass B D b e k)
    (Iff.trans (common_lies _ _ k)
    (Iff.trans (both B D a d b e k) (Iff.symm (bias_eq (a + k * d) (b + k * e) (B + k * D))))))
  where
    both : (B D a d b e k : ℕ)
        → (Lies (passes_at_most (lifted B D a d) (lifted B D b e)) k × Lies (passes_at_most (lifted B D b e) (lifted B D a d)) k) ↔ (a + k * d ≡ b + k * e)
    both B D a d b e k = (
      λ h. let low = (at_most_lifted B D a d b e k).0 h.0 in let high = (at_most_lifted B D b e a d k).0 h.1 in omega arith,
      λ h. ((at_most_lifted B D a d b e k).1 (omega arith), (at_most_lifted B D b e a d k).1 (omega arith)),
    )
