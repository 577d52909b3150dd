-- Marks on the endless run, for the temporal operators over any statements A and B: where they meet their equation at every position
-- they are the truth, if for U and R some position ahead decides; and the truth meets the equation. Assumes nothing.
use mathlib.Core.Path.{◌≡◌, sym, ap, ◌∙◌, subst}
use mathlib.Core.Bool.{Bool, true, false, not, ◌&&◌, ◌||◌, or-false, and-true}
use mathlib.Core.Logic.Iff
use mathlib.Core.Logic.{◌↔◌, ◌⊎◌, inl, inr, ⊎_elim}
use Prim.Native.Nat.{ℕ, zero, suc, ◌+◌, ◌-◌, ◌≤◌, ◌<◌}
use native.Mathlib.Nat.{add-zero, add-suc, suc-add, not-suc-le-zero}
use native.Mathlib.Omega.{arith}
use lib.Dec.{T, T_not}
use Rattle.cltlb.specs.Operators.{Next, Yesterday, WeakYesterday, Until, Release, Since, Trigger}
use Rattle.cltlb.proofs.Steps.{until_here, until_more, until_step, release_step, since_first, since_step, trigger_first, trigger_step}
use Rattle.cltlb.proofs.Duals.{release_dual}
use Rattle.table.proofs.Flips.{de_morgan}
use Rattle.marks.proofs.Tests.{T-path, T-ext, not_iff, and_iff, or_iff, decided, denied}
use Rattle.cltlb.specs.Truth.{UnaryHolds}
use Rattle.cltlb.specs.declared.Unary.{Unary}
use Rattle.marks.specs.declared.operators.Beside.TheVariants.{Before}
use Rattle.cltlb.specs.declared.Binary.TheVariants as binary
use Rattle.marks.specs.Equations.{beside_one, mark_one, mark_two}
use Rattle.marks.proofs.Endless.{Agrees, beside_at}

-- ---- row 0: what counts before it gives the document's marks there

pub since_on_row_0 : (a b : Bool) → mark_two binary.Since a b false ≡ b
since_on_row_0 true b = or-false b
since_on_row_0 false b = or-false b

pub trigger_on_row_0 : (a b : Bool) → mark_two binary.Trigger a b true ≡ b
trigger_on_row_0 true b = and-true b
trigger_on_row_0 false b = and-true b

-- ---- operators over one part: by the marks of the part, at the position and beside it

module _ (A : ℕ → Type 0) (a : ℕ → Bool) (ha : Agrees a A) where
  pub unary_agrees : (o : Unary) → Agrees (λ t. mark_one o (a t) (beside_at (beside_one o) a t)) (UnaryHolds o A)
  unfolding UnaryHolds Next Yesterday WeakYesterday
  unary_agrees Unary.Not t = not_iff (a t) (ha t)
  unary_agrees Unary.Next t = ha (suc t)
  unary_agrees Unary.Yesterday zero = Iff.rfl
  unary_agrees Unary.Yesterday (suc t) = ha t
  unary_agrees Unary.WeakYesterday zero = Iff.rfl
  unary_agrees Unary.WeakYesterday (suc t) = ha t

-- From every position on, one comes that decides: B holds there, or there is no mark.
abbrev pub Decides : (ℕ → Type 0) → (ℕ → Bool) → Type 0
Decides B m = (t : ℕ) → (n : ℕ) × (B (t + n) ⊎ T (not (m (t + n))))

module _ (A B : ℕ → Type 0) (a b m : ℕ → Bool) (ha : Agrees a A) (hb : Agrees b B) where
  or_and : {X : Type 0} (t : ℕ) (y : Bool) → T y ↔ X → T (b t || (a t && y)) ↔ (B t ⊎ (A t × X))
  or_and t y f = or_iff (b t) (a t && y) (hb t) (and_iff (a t) y (ha t) f)

  and-or : {X : Type 0} (t : ℕ) (y : Bool) → T y ↔ X → T (b t && (a t || y)) ↔ (B t × (A t ⊎ X))
  and-or t y f = and_iff (b t) (a t || y) (hb t) (or_iff (a t) y (ha t) f)

  -- ---- U: the truth where some position ahead decides

  module _ (meets : (t : ℕ) → m t ≡ (b t || (a t && m (suc t)))) where
    step : (t : ℕ) → T (m t) ↔ (B t ⊎ (A t × T (m (suc t))))
    step t = Iff.trans (T-path (meets t)) (or_and t (m (suc t)) Iff.rfl)

    -- A mark is carried on to the position that decides,
    carried : (n t : ℕ) → B (t + n) ⊎ T (not (m (t + n))) → T (m t) → Until A B t
    carried zero t (inl y) h = until_here A B t (subst B (add-zero t) y)
    carried zero t (inr q) h = absurd (T_not (m t) (subst (λ (x : ℕ). T (not (m x))) (add-zero t) q) h)
    carried (suc n) t e h =
        ⊎_elim
        (until_here A B t)
        (λ p. until_more A B t p.0 (carried n (suc t) (subst (λ (x : ℕ). B x ⊎ T (not (m x))) (add-suc t n ∙ sym (suc-add t n)) e) p.1))
        ((step t).0 h)

    -- and back from a position where b holds.
    back : (n t : ℕ) → B (t + n) → ((k : ℕ) → t ≤ k → k < t + n → A k) → T (m t)
    back zero t y f = (step t).1 (inl (subst B (add-zero t) y))
    back (suc n) t y f =
        let rest = back n (suc t) (subst B (add-suc t n ∙ sym (suc-add t n)) y) (λ k h l. f k (omega arith) (omega arith)) in
        (step t).1 (inr (f t (omega arith) (omega arith), rest))

    marked : (t : ℕ) → Until A B t → T (m t)
    unfolding Until
    marked t u = back (u.0 - t) t (subst B e u.2) (λ k h l. u.3 k h (omega arith))
      where
        e : u.0 ≡ t + (u.0 - t)
        e = let h = u.1 in omega arith

    pub until_agrees : Decides B m → Agrees m (Until A B)
    until_agrees d t = (carried (d t).0 t (d t).1, marked t)

  -- ---- U and R at a position, from the mark after it

  pub until_by : (t : ℕ) → T (m (suc t)) ↔ Until A B (suc t) → T (b t || (a t && m (suc t))) ↔ Until A B t
  until_by t h = Iff.trans (or_and t (m (suc t)) h) (Iff.symm (until_step A B t))

  pub release_by : (t : ℕ) → T (m (suc t)) ↔ Release A B (suc t) → T (b t && (a t || m (suc t))) ↔ Release A B t
  release_by t h = Iff.trans (and-or t (m (suc t)) h) (Iff.symm (release_step A B t (decided (a t) (ha t))))

  -- ---- S and T at a position, from the marks before it

  pub since_by : (t : ℕ) → ((k : ℕ) → k < t → T (m k) ↔ Since A B k) → T (b t || (a t && beside_at (Before false) m t)) ↔ Since A B t
  since_by zero h = Iff.trans (or_and 0 false Iff.rfl) (Iff.trans (⊎_elim (λ y. y) (λ p. absurd p.1), inl) (Iff.symm (since_first A B)))
  since_by (suc t) h = Iff.trans (or_and (suc t) (m t) (h t (omega arith))) (Iff.symm (since_step A B t))

  pub trigger_by : (t : ℕ) → ((k : ℕ) → k < t → T (m k) ↔ Trigger A B k) → T (b t && (a t || beside_at (Before true) m t)) ↔ Trigger A B t
  trigger_by zero h = Iff.trans (and-or 0 true Iff.rfl) (Iff.trans (λ p. p.0, λ y. (y, inr tt)) (Iff.symm (trigger_first A B)))
  trigger_by (suc t) h =
      Iff.trans (and-or (suc t) (m t) (h t (omega arith))) (Iff.symm (trigger_step A B t (decided (a (suc t)) (ha (suc t)))))

-- ---- R, as the dual of U

module _ (A B : ℕ → Type 0) (a b m : ℕ → Bool) (ha : Agrees a A) (hb : Agrees b B) where
  pub release_agrees : ((t : ℕ) → m t ≡ (b t && (a t || m (suc t)))) → Decides (λ t. ¬ B t) (λ t. not (m t)) → Agrees m (Release A B)
  release_agrees meets d t =
      Iff.trans (denied (m t) (dual t)) (Iff.symm (release_dual A B (λ k. decided (a k) (ha k)) (λ k. decided (b k) (hb k)) t))
    where
      dual : Agrees (λ k. not (m k)) (Until (λ k. ¬ A k) (λ k. ¬ B k))
      dual =
          until_agrees (λ k. ¬ A k) (λ k. ¬ B k) (λ k. not (a k)) (λ k. not (b k)) (λ k. not (m k))
          (λ k. not_iff (a k) (ha k)) (λ k. not_iff (b k) (hb k)) (λ k. ap not (meets k) ∙ de_morgan (b k) (a k) (m (suc k))) d

-- ---- equations that look at no mark of the part itself but earlier ones

module _ (X : ℕ → Type 0) (m due : ℕ → Bool) (by : (t : ℕ) → ((k : ℕ) → k < t → T (m k) ↔ X k) → T (due t) ↔ X t) where
  -- Where they hold at every position below n, the marks are the truth there.
  pub agrees_below : (n : ℕ) → ((t : ℕ) → t < n → m t ≡ due t) → (k : ℕ) → k < n → T (m k) ↔ X k
  agrees_below zero meets k l = absurd (not-suc-le-zero l)
  agrees_below (suc n) meets k l =
      let before = agrees_below n (λ t q. meets t (omega arith)) in
      Iff.trans (T-path (meets k l)) (by k (λ j q. before j (omega arith)))

  -- They hold at every position exactly where the marks are the truth.
  pub meets_agrees : ((t : ℕ) → m t ≡ due t) ↔ Agrees m X
  meets_agrees = (
    λ meets t. agrees_below (suc t) (λ k _. meets k) t (omega arith),
    λ h t. T-ext (m t) (due t) (Iff.trans (h t) (Iff.symm (by t (λ k l. h k)))),
  )
