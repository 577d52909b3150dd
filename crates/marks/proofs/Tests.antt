-- Tests against the statements that they decide. Assumes nothing.
use mathlib.Core.Path.{◌≡◌, refl, sym, ◌∙◌, subst, subst⁻¹}
use mathlib.Core.Bool.{Bool, true, false, not, ◌&&◌, ◌||◌, beq, true≢false}
use mathlib.Core.Logic.{◌↔◌, ◌⊎◌, inl, inr, ⊎_elim}
use lib.Dec.{T, T_not, not_T}

pub T-dec : (x : Bool) → T x ⊎ T (not x)
T-dec true = inl tt
T-dec false = inr tt

pub T-path : {x y : Bool} → x ≡ y → T x ↔ T y
T-path e = (subst T e, subst⁻¹ T e)

pub T-ext : (x y : Bool) → T x ↔ T y → x ≡ y
T-ext true true h = refl
T-ext true false h = absurd (h.0 tt)
T-ext false true h = absurd (h.1 tt)
T-ext false false h = refl

-- Two tests are the same, by the test of it that a refusal makes.
pub beq_false : (x y : Bool) → (not (beq x y) ≡ false) ↔ (x ≡ y)
beq_false true true = (λ _. refl, λ _. refl)
beq_false true false = (λ e. e, λ e. e)
beq_false false true = (λ e. subst (λ b. b ≡ true) e refl, λ e. subst (λ b. b ≡ false) e refl)
beq_false false false = (λ _. refl, λ _. refl)

pub beq-true : (x y : Bool) → not (beq x y) ≡ true → ¬ (x ≡ y)
beq-true x y e d = true≢false (sym e ∙ (beq_false x y).1 d)

pub beq_t : (x y : Bool) → T (beq x y) ↔ (x ≡ y)
beq_t true true = (λ _. refl, λ _. tt)
beq_t true false = (absurd, λ e. subst T e tt)
beq_t false true = (absurd, λ e. subst⁻¹ T e tt)
beq_t false false = (λ _. refl, λ _. tt)

-- Two tests differ, by the same test.
pub beq_differs : (x y : Bool) → beq x y ≡ false → (T x × T (not y)) ⊎ (T (not x) × T y)
beq_differs true true e = absurd (subst T e tt)
beq_differs true false e = inl (tt, tt)
beq_differs false true e = inr (tt, tt)
beq_differs false false e = absurd (subst T e tt)

-- Boolean operations against the statements that they stand for.
pub not_iff : {X : Type 0} (x : Bool) → T x ↔ X → T (not x) ↔ (¬ X)
not_iff x f = (λ n h. T_not x n (f.1 h), λ g. not_T x (λ h. g (f.0 h)))

pub and_iff : {X Y : Type 0} (x y : Bool) → T x ↔ X → T y ↔ Y → T (x && y) ↔ (X × Y)
and_iff true y f g = (λ h. (f.0 tt, g.0 h), λ p. g.1 p.1)
and_iff false y f g = (absurd, λ p. f.1 p.0)

pub or_iff : {X Y : Type 0} (x y : Bool) → T x ↔ X → T y ↔ Y → T (x || y) ↔ (X ⊎ Y)
or_iff true y f g = (λ _. inl (f.0 tt), λ _. tt)
or_iff false y f g = (λ h. inr (g.0 h), ⊎_elim (λ h. absurd (f.1 h)) g.1)

-- A test that decides a statement.
pub decided : {X : Type 0} (x : Bool) → T x ↔ X → X ⊎ (X → ⊥)
decided true f = inl (f.0 tt)
decided false f = inr f.1

-- A statement is the denial of what the denied test decides.
pub denied : {X : Type 0} (x : Bool) → T (not x) ↔ X → T x ↔ (¬ X)
denied true f = (λ _. f.1, λ _. tt)
denied false f = (absurd, λ g. g (f.0 tt))
