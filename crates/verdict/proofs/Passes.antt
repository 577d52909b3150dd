-- What a verdict says of a statement about every pass, and how passes are put in front of it. Assumes nothing.
use Prim.Native.Nat.{ℕ, zero, suc, ◌+◌}
use native.Mathlib.Nat.{add-zero, zero-add}
use native.Mathlib.Omega.{arith}
use mathlib.Core.Path.{◌≡◌, refl}
use mathlib.Core.Bool.{Bool, true, false, false≢true}
use mathlib.Core.Logic.Iff
use mathlib.Core.Logic.{◌↔◌}
use Rattle.verdict.specs.Rows.{join, join_first}
use Rattle.verdict.specs.declared.Verdict.{Verdict}
use Rattle.verdict.specs.declared.Verdict.TheVariants.{AlwaysTrue, AlwaysFalse, Changes}

-- The verdict v on a statement F about passes.
unfoldable pub PassMeans : Verdict → (ℕ → Type 0) → Type 0
PassMeans AlwaysTrue F = (k : ℕ) → F k
PassMeans AlwaysFalse F = (k : ℕ) → ¬ F k
PassMeans Changes F = ((k : ℕ) × F k) × ((k : ℕ) × (¬ F k))

-- A verdict on a statement is one on an equivalent statement.
pub means_iff : (v : Verdict) (F G : ℕ → Type 0) → ((k : ℕ) → F k ↔ G k) → PassMeans v F → PassMeans v G
unfolding PassMeans
means_iff AlwaysTrue F G e m = λ k. (e k).0 (m k)
means_iff AlwaysFalse F G e m = λ k g. m k ((e k).1 g)
means_iff Changes F G e m = ((m.0.0, (e m.0.0).0 m.0.1), (m.1.0, λ g. m.1.1 ((e m.1.0).1 g)))

-- There is one verdict on a statement.
pub means_one : (v w : Verdict) (F : ℕ → Type 0) → PassMeans v F → PassMeans w F → v ≡ w
unfolding PassMeans
means_one AlwaysTrue AlwaysTrue F m n = refl
means_one AlwaysTrue AlwaysFalse F m n = absurd (n 0 (m 0))
means_one AlwaysTrue Changes F m n = absurd (n.1.1 (m n.1.0))
means_one AlwaysFalse AlwaysTrue F m n = absurd (m 0 (n 0))
means_one AlwaysFalse AlwaysFalse F m n = refl
means_one AlwaysFalse Changes F m n = absurd (m n.0.0 n.0.1)
means_one Changes AlwaysTrue F m n = absurd (m.1.1 (n m.1.0))
means_one Changes AlwaysFalse F m n = absurd (n m.0.0 m.0.1)
means_one Changes Changes F m n = refl

all_of : (F : ℕ → Type 0) → F 0 → ((k : ℕ) → F (suc k)) → (k : ℕ) → F k
all_of F h m zero = h
all_of F h m (suc k) = m k

-- One more pass in front.
pub join_means : (b : Bool) (v : Verdict) (F : ℕ → Type 0) → (b ≡ true) ↔ F 0 → PassMeans v (λ k. F (suc k)) → PassMeans (join b v) F
unfolding PassMeans
join_means true AlwaysTrue F e m = all_of F (e.0 refl) m
join_means true AlwaysFalse F e m = ((0, e.0 refl), (1, m 0))
join_means true Changes F e m = ((0, e.0 refl), (suc m.1.0, m.1.1))
join_means false AlwaysTrue F e m = ((1, m 0), (0, λ h. false≢true (e.1 h)))
join_means false AlwaysFalse F e m = all_of (λ k. ¬ F k) (λ h. false≢true (e.1 h)) m
join_means false Changes F e m = ((suc m.0.0, m.0.1), (0, λ h. false≢true (e.1 h)))

-- The first n passes in front.
pub first_means : (f : ℕ → Bool) (F : ℕ → Type 0) → ((k : ℕ) → (f k ≡ true) ↔ F k) → (n : ℕ) (v : Verdict) → PassMeans v (λ k. F (k + n)) → PassMeans (join_first f n v) F
unfolding join_first
first_means f F e zero v m = means_iff v (λ k. F (k + 0)) F (λ k. rw (add-zero k) Iff.rfl) m
first_means f F e (suc n) v m =
    first_means f F e n (join (f n) v)
    (join_means (f n) v (λ k. F (k + n)) (rw (zero-add n) (e n)) (means_iff v (λ k. F (k + suc n)) (λ k. F (suc k + n)) (λ k. rw (shift k) Iff.rfl) m))
  where
    shift : (k : ℕ) → k + suc n ≡ suc k + n
    shift k = omega arith
