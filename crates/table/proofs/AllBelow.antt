-- A test of all numbers below one, and how a sweep makes it. Assumes nothing.
use mathlib.Core.Path.{◌≡◌, refl, sym, ap, ap₂, ◌∙◌, subst}
use mathlib.Core.Bool.{Bool, true, false, ◌&&◌, and-true, and_assoc, and-eq-true_iff, false≢true}
use mathlib.Core.Logic.{by_cases}
use Prim.Native.Nat.{ℕ, zero, suc, ◌+◌, ◌-◌, ◌≤◌, ◌<◌}
use native.Mathlib.Nat.{not-suc-le-zero}
use native.Mathlib.Decide.{dec_lt}
use native.Mathlib.Numerals.{add-one}
use native.Mathlib.Omega.{arith}
use Rattle.table.specs.inner.Tables.{all_below}

-- Two tests that are true of the same are the same.
pub both_ways : (a b : Bool) → (a ≡ true → b ≡ true) → (b ≡ true → a ≡ true) → a ≡ b
both_ways true b h g = sym (h refl)
both_ways false true h g = absurd (false≢true (g refl))
both_ways false false h g = refl

module _ (f : ℕ → Bool) where
  -- Nothing is amiss before the first,
  pub sweep_first : true ≡ all_below f 0
  unfolding all_below
  sweep_first = refl

  -- one more is looked at,
  pub sweep_next : (k : ℕ) {all here : Bool} → all ≡ all_below f k → here ≡ f k → (all && here) ≡ all_below f (k + 1)
  unfolding all_below
  sweep_next k d e = rw add-one (ap₂ ◌&&◌ d e)

  -- and the end is come to.
  pub sweep_end : (k n : ℕ) {all : Bool} → k ≤ n → n ≤ k → all ≡ all_below f k → all ≡ all_below f n
  sweep_end k n h l e = e ∙ ap (all_below f) (omega arith)

  -- A test that is true of all is true of each,
  pub all_each : (n : ℕ) → all_below f n ≡ true → (k : ℕ) → k < n → f k ≡ true
  unfolding all_below
  all_each zero e k l = absurd (not-suc-le-zero l)
  all_each (suc n) e k l =
      let p = (and-eq-true_iff (all_below f n) (f n)).0 e in
      by_cases (dec_lt k n) (all_each n p.0 k) (λ s. subst (λ (x : ℕ). f x ≡ true) (omega arith) p.1)

  -- and the other way round.
  pub each_all : (n : ℕ) → ((k : ℕ) → k < n → f k ≡ true) → all_below f n ≡ true
  unfolding all_below
  each_all zero h = refl
  each_all (suc n) h = simp (each_all n (λ k l. h k (omega arith)), h n (omega arith))

module _ (f g : ℕ → Bool) where
  pub all_ext : (n : ℕ) → ((k : ℕ) → k < n → f k ≡ g k) → all_below f n ≡ all_below g n
  unfolding all_below
  all_ext zero h = refl
  all_ext (suc n) h = ap₂ ◌&&◌ (all_ext n (λ k l. h k (omega arith))) (h n (omega arith))

  -- All but the first, and the first.
  pub all_first : (n : ℕ) {first : Bool} → first ≡ g 0 → ((k : ℕ) → k < n → f k ≡ g (suc k)) → (first && all_below f n) ≡ all_below g (suc n)
  unfolding all_below
  all_first zero e h = and-true _ ∙ e
  all_first (suc n) {first} e h = sym (and_assoc first (all_below f n) (f n)) ∙ ap₂ ◌&&◌ (all_first n e (λ k l. h k (omega arith))) (h n (omega arith))

  -- All but the last, and the last.
  pub all_last : (n : ℕ) {last : Bool} → ((k : ℕ) → k < n → f k ≡ g k) → last ≡ g n → (all_below f n && last) ≡ all_below g (suc n)
  unfolding all_below
  all_last n h e = ap₂ ◌&&◌ (all_ext n h) e

-- All but some at the end, and as many at the end or more.
pub and_the_last : (f : ℕ → Bool) (n a b : ℕ) {A B : Bool} → a ≤ n → n ≤ a + b → b ≤ n → A ≡ all_below f a → B ≡ all_below (λ k. f (n - b + k)) b → (A && B) ≡ all_below f n
and_the_last f n a b h g l e d = ap₂ ◌&&◌ e d ∙ both_ways _ _ all parts
  where
    all : (all_below f a && all_below (λ k. f (n - b + k)) b) ≡ true → all_below f n ≡ true
    all t =
        let p = (and-eq-true_iff _ _).0 t in
        each_all f n (λ k s. by_cases (dec_lt k a) (all_each f a p.0 k)
        (λ u. subst (λ (x : ℕ). f x ≡ true) (omega arith) (all_each (λ j. f (n - b + j)) b p.1 (k - (n - b)) (omega arith))))

    parts : all_below f n ≡ true → (all_below f a && all_below (λ k. f (n - b + k)) b) ≡ true
    parts t = (and-eq-true_iff _ _).1 (each_all f a (λ k s. all_each f n t k (omega arith)), each_all (λ k. f (n - b + k)) b (λ k s. all_each f n t (n - b + k) (omega arith)))
