-- Arrays that a loop fills, and lists given element by element. Assumes nothing.
use Prim.Native.Nat.{ℕ, zero, suc, ◌+◌, ◌≤◌, ◌<◌}
use native.Mathlib.Nat.{not-suc-le-zero}
use native.Mathlib.Decide.{dec_lt}
use native.Mathlib.Omega.{arith}
use mathlib.Core.Path.{◌≡◌, refl, ap₂, ◌∙◌, subst}
use mathlib.Core.Logic.{by_cases}
use mathlib.Core.List.{List, [], ◌∷◌, map}
use lib.ListN.{length, get_or, set, length-set}
use lib.Seq.{get_or-set_same, get_or-set_other}
use Rattle.live.specs.Kept.{tabulated}

pub tab_get : (n : ℕ) (f : ℕ → ℕ) (j : ℕ) → j < n → get_or (tabulated n f) j 0 ≡ f j
unfolding tabulated
tab_get zero f j h = absurd (not-suc-le-zero h)
tab_get (suc n) f zero h = refl
tab_get (suc n) f (suc j) h = tab_get n (λ k. f (suc k)) j (omega arith)

pub tab_length : (n : ℕ) (f : ℕ → ℕ) → length (tabulated n f) ≡ n
unfolding tabulated
tab_length zero f = refl
tab_length (suc n) f = let k = tab_length n (λ k. f (suc k)) in omega arith

pub tab_ext : (n : ℕ) (f : ℕ → ℕ) (l : List ℕ) → length l ≡ n → ((j : ℕ) → j < n → get_or l j 0 ≡ f j) → l ≡ tabulated n f
unfolding tabulated
tab_ext zero f [] e h = refl
tab_ext zero f (x ∷ l) e h = absurd (omega arith)
tab_ext (suc n) f [] e h = absurd (omega arith)
tab_ext (suc n) f (x ∷ l) e h = ap₂ ◌∷◌ (h 0 (omega arith)) (tab_ext n (λ k. f (suc k)) l (omega arith) (λ j k. h (suc j) (omega arith)))

-- A list whose first i elements are those of f, the rest being as they were.
pub record Filled {X : Type 0} (d : X) (old : List X) (f : ℕ → X) (i : ℕ) (l : List X) : Type 0 where
  pub long : length l ≡ length old
  pub done : (j : ℕ) → j < i → get_or l j d ≡ f j
  pub rest : (j : ℕ) → i ≤ j → get_or l j d ≡ get_or old j d

module _ {X : Type 0} (d : X) (old : List X) (f : ℕ → X) where
  pub fill_none : Filled d old f 0 old
  fill_none = record { long = refl; done = λ j h. absurd (not-suc-le-zero h); rest = λ j h. refl }

  pub fill_one : (i : ℕ) (l : List X) (x : X) → Filled d old f i l → i < length old → x ≡ f i → Filled d old f (i + 1) (set l i x)
  fill_one i l x w h e = record {
    long = length-set l i x ∙ w.long;
    done = λ j k. by_cases (dec_lt j i)
        (λ s. get_or-set_other l i j x d (λ q. absurd (omega arith)) ∙ w.done j s)
        (λ s. let q : i ≡ j = omega arith in subst (λ (j : ℕ). get_or (set l i x) j d ≡ f j) q (get_or-set_same l i x d (let z = w.long in omega arith) ∙ e));
    rest = λ j k. get_or-set_other l i j x d (λ q. absurd (omega arith)) ∙ w.rest j (omega arith);
  }

  -- one of those behind the first i
  pub fill_behind : (i k : ℕ) (l : List X) (x : X) → Filled d old f (i + k) l → i + k < length old → x ≡ f (i + k) → Filled d old f (i + (k + 1)) (set l (i + k) x)
  fill_behind i k l x w h e = subst (λ (j : ℕ). Filled d old f j (set l (i + k) x)) (omega arith) (fill_one (i + k) l x w h e)

pub fill_all : (old : List ℕ) (f : ℕ → ℕ) (i : ℕ) (l : List ℕ) → Filled 0 old f i l → (n : ℕ) → length old ≡ n → n ≤ i → l ≡ tabulated n f
fill_all old f i l w n e h = tab_ext n f l (w.long ∙ e) (λ j k. w.done j (omega arith))

pub fill_four : {X : Type 0} (d : X) (old : List X) (f : ℕ → X) (i : ℕ) (l : List X) → Filled d old f i l → length old ≡ 4 → 4 ≤ i → l ≡ map f (0 ∷ 1 ∷ 2 ∷ 3 ∷ [])
fill_four {X} d old f i l w e h = of_four l (w.long ∙ e) (w.done 0 (omega arith)) (w.done 1 (omega arith)) (w.done 2 (omega arith)) (w.done 3 (omega arith))
  where
    of_four : (l : List X) → length l ≡ 4 → get_or l 0 d ≡ f 0 → get_or l 1 d ≡ f 1 → get_or l 2 d ≡ f 2 → get_or l 3 d ≡ f 3 → l ≡ map f (0 ∷ 1 ∷ 2 ∷ 3 ∷ [])
    of_four (v ∷ x ∷ y ∷ z ∷ []) k a b c q = rw (a, b, c, q) refl
    of_four [] k a b c q = absurd (omega arith)
    of_four (v ∷ []) k a b c q = absurd (omega arith)
    of_four (v ∷ x ∷ []) k a b c q = absurd (omega arith)
    of_four (v ∷ x ∷ y ∷ []) k a b c q = absurd (omega arith)
    of_four (v ∷ x ∷ y ∷ z ∷ u ∷ r) k a b c q = absurd (omega arith)
