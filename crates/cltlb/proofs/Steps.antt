-- U, R, S and T unfold one step, as the tables of 001 have it, over any statements A and B about a position. Assumes nothing.
use mathlib.Core.Path.{subst}
use mathlib.Core.Logic.{◌↔◌, ◌⊎◌, inl, inr, ⊎_elim, by_cases}
use Prim.Native.Nat.{ℕ, suc, ◌≤◌, ◌<◌}
use native.Mathlib.Decide.{dec_lt}
use native.Mathlib.Omega.{arith}
use Rattle.cltlb.specs.Operators.{Until, Release, Since, Trigger}

module _ (A B : ℕ → Type 0) where
  pub until_here : (t : ℕ) → B t → Until A B t
  unfolding Until
  until_here t b = (t, omega arith, b, λ k h l. absurd (omega arith))

  pub until_more : (t : ℕ) → A t → Until A B (suc t) → Until A B t
  unfolding Until
  until_more t a u = (u.0, omega arith, u.2, λ k h l. by_cases (dec_lt t k) (λ s. u.3 k s l) (λ s. subst A (omega arith) a))

  pub until_next : (t : ℕ) → Until A B t → B t ⊎ (A t × Until A B (suc t))
  unfolding Until
  until_next t u =
      by_cases (dec_lt t u.0)
      (λ l. inr (u.3 t (omega arith) l, (u.0, l, u.2, λ k h s. u.3 k (omega arith) s)))
      (λ l. inl (subst B (let h = u.1 in omega arith) u.2))

  -- a U b holds where b does, or where a does and a U b holds at the next position.
  pub until_step : (t : ℕ) → Until A B t ↔ (B t ⊎ (A t × Until A B (suc t)))
  until_step t = (until_next t, ⊎_elim (until_here t) (λ p. until_more t p.0 p.1))

  pub release_here : (t : ℕ) → Release A B t → B t
  unfolding Release
  release_here t r = ⊎_elim (λ b. b) (λ p. absurd (let h = p.1 in let l = p.2 in omega arith)) (r t (omega arith))

  pub release_later : (t : ℕ) → (A t → ⊥) → Release A B t → Release A B (suc t)
  unfolding Release
  release_later t n r j h = ⊎_elim inl found (r j (omega arith))
    where
      found : (k : ℕ) × (t ≤ k) × (k < j) × A k → B j ⊎ ((k : ℕ) × (t < k) × (k < j) × A k)
      found p =
          by_cases (dec_lt t p.0)
          (λ s. inr (p.0, s, p.2, p.3))
          (λ s. absurd (n (subst A (let h = p.1 in omega arith) p.3)))

  pub release_now : (t : ℕ) → B t → A t → Release A B t
  unfolding Release
  release_now t b a j h = by_cases (dec_lt t j) (λ s. inr (t, omega arith, s, a)) (λ s. inl (subst B (omega arith) b))

  pub release_more : (t : ℕ) → B t → Release A B (suc t) → Release A B t
  unfolding Release
  release_more t b r j h =
      by_cases (dec_lt t j)
      (λ s. ⊎_elim inl (λ p. inr (p.0, (let l = p.1 in omega arith), p.2, p.3)) (r j s))
      (λ s. inl (subst B (omega arith) b))

  -- a R b holds where b does, and a does or a R b holds at the next position.
  pub release_step : (t : ℕ) → A t ⊎ (A t → ⊥) → Release A B t ↔ (B t × (A t ⊎ Release A B (suc t)))
  release_step t dec = (
    λ r. (release_here t r, ⊎_elim inl (λ n. inr (release_later t n r)) dec),
    λ p. ⊎_elim (release_now t p.0) (release_more t p.0) p.1,
  )

  pub since_here : (t : ℕ) → B t → Since A B t
  unfolding Since
  since_here t b = (t, omega arith, b, λ k h l. absurd (omega arith))

  pub since_more : (t : ℕ) → A (suc t) → Since A B t → Since A B (suc t)
  unfolding Since
  since_more t a s = (
    s.0,
    (let h = s.1 in omega arith),
    s.2,
    λ k h l. by_cases (dec_lt t k) (λ q. subst A (omega arith) a) (λ q. s.3 k h (omega arith)),
  )

  pub since_back : (t : ℕ) → Since A B (suc t) → B (suc t) ⊎ (A (suc t) × Since A B t)
  unfolding Since
  since_back t s =
      by_cases (dec_lt t s.0)
      (λ q. inl (subst B (let h = s.1 in omega arith) s.2))
      (λ q. inr (s.3 (suc t) (omega arith) (omega arith), (s.0, omega arith, s.2, λ k h l. s.3 k h (omega arith))))

  -- At position 0, a S b holds where b does.
  pub since_first : Since A B 0 ↔ B 0
  unfolding Since
  since_first = (λ s. subst B (let h = s.1 in omega arith) s.2, since_here 0)

  -- Above 0, a S b holds where b does, or where a does and a S b held at the position before.
  pub since_step : (t : ℕ) → Since A B (suc t) ↔ (B (suc t) ⊎ (A (suc t) × Since A B t))
  since_step t = (since_back t, ⊎_elim (since_here (suc t)) (λ p. since_more t p.0 p.1))

  pub trigger_here : (t : ℕ) → Trigger A B t → B t
  unfolding Trigger
  trigger_here t f = ⊎_elim (λ b. b) (λ p. absurd (let h = p.1 in let l = p.2 in omega arith)) (f t (omega arith))

  pub trigger_before : (t : ℕ) → (A (suc t) → ⊥) → Trigger A B (suc t) → Trigger A B t
  unfolding Trigger
  trigger_before t n f j h = ⊎_elim inl found (f j (omega arith))
    where
      found : (k : ℕ) × (j < k) × (k ≤ suc t) × A k → B j ⊎ ((k : ℕ) × (j < k) × (k ≤ t) × A k)
      found p =
          by_cases (dec_lt t p.0)
          (λ l. absurd (n (subst A (let q = p.2 in omega arith) p.3)))
          (λ l. inr (p.0, p.1, omega arith, p.3))

  pub trigger_now : (t : ℕ) → B t → A t → Trigger A B t
  unfolding Trigger
  trigger_now t b a j h = by_cases (dec_lt j t) (λ l. inr (t, l, omega arith, a)) (λ l. inl (subst B (omega arith) b))

  pub trigger_more : (t : ℕ) → B (suc t) → Trigger A B t → Trigger A B (suc t)
  unfolding Trigger
  trigger_more t b f j h =
      by_cases (dec_lt t j)
      (λ l. inl (subst B (omega arith) b))
      (λ l. ⊎_elim inl (λ p. inr (p.0, p.1, (let q = p.2 in omega arith), p.3)) (f j (omega arith)))

  -- At position 0, a T b holds where b does.
  pub trigger_first : Trigger A B 0 ↔ B 0
  unfolding Trigger
  trigger_first = (trigger_here 0, λ b j h. inl (subst B (omega arith) b))

  -- Above 0, a T b holds where b does, and a does or a T b held at the position before.
  pub trigger_step : (t : ℕ) → A (suc t) ⊎ (A (suc t) → ⊥) → Trigger A B (suc t) ↔ (B (suc t) × (A (suc t) ⊎ Trigger A B t))
  trigger_step t dec = (
    λ f. (trigger_here (suc t) f, ⊎_elim inl (λ n. inr (trigger_before t n f)) dec),
    λ p. ⊎_elim (trigger_now (suc t) p.0) (trigger_more t p.0) p.1,
  )
