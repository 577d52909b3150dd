-- Statements that repeat: from some position on, what holds at a position is what holds c positions later. Every operator over
-- statements that repeat repeats, those that look back at most c positions later. Nothing need be decided. Assumes nothing.
use mathlib.Core.Path.{◌≡◌, subst}
use mathlib.Core.Logic.Iff
use mathlib.Core.Logic.{◌↔◌, inl, inr, ⊎_elim, by_cases}
use Prim.Native.Nat.{ℕ, zero, suc, ◌+◌, ◌*◌, ◌-◌, ◌≤◌}
use native.Mathlib.Decide.{dec_lt}
use native.Mathlib.Omega.{arith}
use Rattle.cltlb.specs.Operators.{Until, Release, Since, Trigger, Next, Yesterday, WeakYesterday}
use Rattle.cltlb.specs.Truth.{UnaryHolds, BinaryHolds}
use Rattle.cltlb.specs.Nesting.{deeper_one, deeper_two}
use Rattle.cltlb.specs.declared.Unary.{Unary}
use Rattle.cltlb.specs.declared.Unary.TheVariants as unary
use Rattle.cltlb.specs.declared.Binary.{Binary}
use Rattle.cltlb.specs.declared.Binary.TheVariants as binary

-- From position s on, A is what it is C positions later.
abbrev pub RepeatsFrom : ℕ → ℕ → (ℕ → Type 0) → Type 0
RepeatsFrom C s A = (t : ℕ) → s ≤ t → A t ↔ A (t + C)

module _ (C s : ℕ) (A : ℕ → Type 0) (ha : RepeatsFrom C s A) where
  -- What repeats from s on repeats from any later position on.
  pub repeats_later : (u : ℕ) → s ≤ u → RepeatsFrom C u A
  repeats_later u l t h = ha t (omega arith)

  -- It is what it was C positions earlier.
  pub repeats_back : (t : ℕ) → s + C ≤ t → A (t - C) ↔ A t
  repeats_back t l =
      let e : t - C + C ≡ t = omega arith in
      subst (λ (x : ℕ). A (t - C) ↔ A x) e (ha (t - C) (omega arith))

  -- It is the same any number of passes later.
  pub repeats_passes : (k t : ℕ) → s ≤ t → A t ↔ A (t + k * C)
  repeats_passes zero t l = let e : t ≡ t + 0 * C = omega arith in subst (λ (x : ℕ). A t ↔ A x) e Iff.rfl
  repeats_passes (suc k) t l =
      let e : t + k * C + C ≡ t + suc k * C = omega arith in
      Iff.trans (repeats_passes k t l) (subst (λ (x : ℕ). A (t + k * C) ↔ A x) e (ha (t + k * C) (omega arith)))

  -- ---- operators over one part

  next_repeats : RepeatsFrom C s (Next A)
  unfolding Next
  next_repeats t l = let e : suc t + C ≡ suc (t + C) = omega arith in subst (λ (x : ℕ). A (suc t) ↔ A x) e (ha (suc t) (omega arith))

  -- Y and Z repeat one position later.
  yesterday_repeats : RepeatsFrom C (suc s) (Yesterday A)
  unfolding Yesterday
  yesterday_repeats zero l = absurd (omega arith)
  yesterday_repeats (suc t) l = let e : suc (t + C) ≡ suc t + C = omega arith in subst (λ (x : ℕ). A t ↔ Yesterday A x) e (ha t (omega arith))

  weak_repeats : RepeatsFrom C (suc s) (WeakYesterday A)
  unfolding WeakYesterday
  weak_repeats zero l = absurd (omega arith)
  weak_repeats (suc t) l = let e : suc (t + C) ≡ suc t + C = omega arith in subst (λ (x : ℕ). A t ↔ WeakYesterday A x) e (ha t (omega arith))

-- ---- S and T repeat one cycle later

module _ (C s : ℕ) (A B : ℕ → Type 0) (ha : RepeatsFrom C s A) (hb : RepeatsFrom C s B) where
  since_on : (t : ℕ) → s + C ≤ t → Since A B t → Since A B (t + C)
  unfolding Since
  since_on t l u =
      let h = u.1 in
      by_cases (dec_lt u.0 s)
      (λ q. (
        u.0,
        omega arith,
        u.2,
        λ k g r. by_cases (dec_lt t k)
            (λ w. (repeats_back C s A ha k (omega arith)).0 (u.3 (k - C) (omega arith) (omega arith)))
            (λ w. u.3 k g (omega arith)),
      ))
      (λ q. (
        u.0 + C,
        omega arith,
        (hb u.0 (omega arith)).0 u.2,
        λ k g r. (repeats_back C s A ha k (omega arith)).0 (u.3 (k - C) (omega arith) (omega arith)),
      ))

  since_off : (t : ℕ) → s + C ≤ t → Since A B (t + C) → Since A B t
  unfolding Since
  since_off t l u =
      let h = u.1 in
      by_cases (dec_lt u.0 (s + C))
      (λ q. (u.0, omega arith, u.2, λ k g r. u.3 k g (omega arith)))
      (λ q. (
        u.0 - C,
        omega arith,
        (repeats_back C s B hb u.0 (omega arith)).1 u.2,
        λ k g r. (ha k (omega arith)).1 (u.3 (k + C) (omega arith) (omega arith)),
      ))

  trigger_on : (t : ℕ) → s + C ≤ t → Trigger A B t → Trigger A B (t + C)
  unfolding Trigger
  trigger_on t l f j h =
      by_cases (dec_lt j (s + C))
      (λ q. ⊎_elim inl (λ p. let g = p.2 in inr (p.0, p.1, omega arith, p.3)) (f j (omega arith)))
      (λ q. ⊎_elim
      (λ b. inl ((repeats_back C s B hb j (omega arith)).0 b))
      (λ p. let g = p.1 in let w = p.2 in inr (p.0 + C, omega arith, omega arith, (ha p.0 (omega arith)).0 p.3))
      (f (j - C) (omega arith)))

  trigger_off : (t : ℕ) → s + C ≤ t → Trigger A B (t + C) → Trigger A B t
  unfolding Trigger
  trigger_off t l f j h =
      by_cases (dec_lt j s)
      (λ q. ⊎_elim inl
      (λ p. let g = p.1 in let w = p.2 in by_cases (dec_lt t p.0)
      (λ z. inr (p.0 - C, omega arith, omega arith, (repeats_back C s A ha p.0 (omega arith)).1 p.3))
      (λ z. inr (p.0, g, omega arith, p.3)))
      (f j (omega arith)))
      (λ q. ⊎_elim
      (λ b. inl ((hb j (omega arith)).1 b))
      (λ p. let g = p.1 in let w = p.2 in inr (p.0 - C, omega arith, omega arith, (repeats_back C s A ha p.0 (omega arith)).1 p.3))
      (f (j + C) (omega arith)))

-- ---- U and R, at a position from which on their parts repeat and c positions later

module _ (A B : ℕ → Type 0) (c t : ℕ) (ha : RepeatsFrom c t A) (hb : RepeatsFrom c t B) where
  pub until_shift : Until A B t ↔ Until A B (t + c)
  unfolding Until
  until_shift = (
    λ u.
        let low = u.1 in
        (u.0 + c, omega arith, (hb u.0 low).0 u.2, λ k h l. (repeats_back c t A ha k h).0 (u.3 (k - c) (omega arith) (omega arith))),
    λ u.
        let low = u.1 in
        (u.0 - c, omega arith, (repeats_back c t B hb u.0 low).1 u.2, λ k h l. (ha k h).1 (u.3 (k + c) (omega arith) (omega arith))),
  )

  pub release_shift : Release A B t ↔ Release A B (t + c)
  unfolding Release
  release_shift = (
    λ r j h. ⊎_elim
        (λ y. inl ((repeats_back c t B hb j h).0 y))
        (λ p. let low = p.1 in let high = p.2 in inr (p.0 + c, omega arith, omega arith, (ha p.0 low).0 p.3))
        (r (j - c) (omega arith)),
    λ r j h. ⊎_elim
        (λ y. inl ((hb j h).1 y))
        (λ p. let low = p.1 in let high = p.2 in inr (p.0 - c, omega arith, omega arith, (repeats_back c t A ha p.0 low).1 p.3))
        (r (j + c) (omega arith)),
  )

-- ---- every operator

module _ (C s : ℕ) (some_cycle : 1 ≤ C) where
  -- An operator over one statement that repeats from s on repeats from s on, and Y and Z from a cycle later on.
  pub one_repeats : (o : Unary) (A : ℕ → Type 0) → RepeatsFrom C s A → RepeatsFrom C (s + deeper_one o * C) (UnaryHolds o A)
  unfolding UnaryHolds
  one_repeats unary.Not A h t l = let r = h t (omega arith) in (λ n a. n (r.1 a), λ n a. n (r.0 a))
  one_repeats unary.Next A h t l = next_repeats C s A h t (omega arith)
  one_repeats unary.Yesterday A h t l = yesterday_repeats C s A h t (omega arith)
  one_repeats unary.WeakYesterday A h t l = weak_repeats C s A h t (omega arith)

  -- An operator over two such statements repeats from s on, and S and T from a cycle later on.
  pub two_repeats : (o : Binary) (A B : ℕ → Type 0) → RepeatsFrom C s A → RepeatsFrom C s B
      → RepeatsFrom C (s + deeper_two o * C) (BinaryHolds o A B)
  unfolding BinaryHolds
  two_repeats binary.And A B h g t l =
      let a = h t (omega arith) in
      let b = g t (omega arith) in
      (λ p. (a.0 p.0, b.0 p.1), λ p. (a.1 p.0, b.1 p.1))
  two_repeats binary.Or A B h g t l =
      let a = h t (omega arith) in
      let b = g t (omega arith) in
      (⊎_elim (λ x. inl (a.0 x)) (λ y. inr (b.0 y)), ⊎_elim (λ x. inl (a.1 x)) (λ y. inr (b.1 y)))
  two_repeats binary.Until A B h g t l = until_shift A B C t (λ k q. h k (omega arith)) (λ k q. g k (omega arith))
  two_repeats binary.Release A B h g t l = release_shift A B C t (λ k q. h k (omega arith)) (λ k q. g k (omega arith))
  two_repeats binary.Since A B h g t l = (since_on C s A B h g t (omega arith), since_off C s A B h g t (omega arith))
  two_repeats binary.Trigger A B h g t l = (trigger_on C s A B h g t (omega arith), trigger_off C s A B h g t (omega arith))
