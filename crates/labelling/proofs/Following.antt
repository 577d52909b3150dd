-- An operator that is followed from row to row meets its equation on every row: once round the cycle is enough, as its mark can
-- only rise with what counts behind. U made is the least solution of the equation, R the greatest. Assumes nothing.
use mathlib.Core.Path.{◌≡◌, refl, sym, ap, ◌∙◌, subst, subst⁻¹}
use mathlib.Core.Bool.{Bool, true, false}
use mathlib.Core.Logic.{by_cases}
use Prim.Native.Nat.{ℕ, zero, suc, ◌+◌, ◌-◌, ◌≤◌, ◌<◌}
use native.Mathlib.Decide.{dec_lt}
use native.Mathlib.Omega.{arith}
use lib.Dec.{T}
use Rattle.cltlb.specs.declared.Binary.{Binary}
use Rattle.cltlb.specs.declared.Binary.TheVariants.{And, Or, Until, Release, Since, Trigger}
use Rattle.cltlb.specs.declared.Operator.{Operator}
use Rattle.cltlb.specs.declared.Operator.TheVariants.{One, Two}
use Rattle.plan.specs.Positions.{last, after}
use Rattle.plan.proofs.Rows.{after_last, after_other}
use Rattle.marks.specs.declared.operators.Beside.TheVariants.{After}
use Rattle.marks.specs.Equations.{mark_two, step_on, watched_truth}
use Rattle.labelling.specs.Labels.{end_of, following, label_by}

-- ---- a step from what counts beside

-- a mark can only rise with the mark beside
two_rises : (o : Binary) (a b : Bool) → T (mark_two o a b false) → T (mark_two o a b true)
two_rises And a b h = h
two_rises Or a b h = h
two_rises Until a true h = tt
two_rises Until true false h = tt
two_rises Until false false h = h
two_rises Release true true h = tt
two_rises Release false true h = tt
two_rises Release a false h = h
two_rises Since a true h = tt
two_rises Since true false h = tt
two_rises Since false false h = h
two_rises Trigger true true h = tt
two_rises Trigger false true h = tt
two_rises Trigger a false h = h

-- twice is once, for a function of a mark that can only rise
again : (g : Bool → Bool) → (T (g false) → T (g true)) → (x : Bool) → g (g x) ≡ g x
again g up true = go (g true) (g false) refl refl up
  where
    go : (y z : Bool) → g true ≡ y → g false ≡ z → (T z → T y) → g y ≡ y
    go true z e f h = e
    go false true e f h = absurd (h tt)
    go false false e f h = f
again g up false = go (g true) (g false) refl refl up
  where
    go : (y z : Bool) → g true ≡ y → g false ≡ z → (T z → T y) → g z ≡ z
    go true true e f h = e
    go false true e f h = absurd (h tt)
    go y false e f h = f

-- the row that comes k rows after
further : ℕ → ℕ → ℕ → ℕ → ℕ
further P C zero row = row
further P C (suc k) row = further P C k (after P C row)

module _ (P C : ℕ) (mark : ℕ → ℕ → Bool) (o : Operator) where
  -- one step, by the operator's own truth on the row after
  abbrev pub step : ℕ → Bool → Bool
  step row own = step_on mark o row (watched_truth mark o own (after P C row))

  -- k steps from a row on, with any end
  ending : Bool → ℕ → ℕ → Bool
  ending end zero row = end
  ending end (suc k) row = step row (ending end k (after P C row))

  follows : (k row : ℕ) → following P C mark o k row ≡ ending (end_of o) k row
  unfolding following ending
  follows zero row = refl
  follows (suc k) row = ap (step row) (follows k (after P C row))

  in_two : (end : Bool) (j k row : ℕ) → ending end (k + j) row ≡ ending (ending end j (further P C k row)) k row
  unfolding ending further
  in_two end j zero row = let same : 0 + j ≡ j = omega arith in ap (λ (n : ℕ). ending end n row) same
  in_two end j (suc k) row =
      let more : suc k + j ≡ suc (k + j) = omega arith in
      ap (λ (n : ℕ). ending end n row) more ∙ ap (step row) (in_two end j k (after P C row))

step_rises : (P C : ℕ) (mark : ℕ → ℕ → Bool) (o : Operator) (row : ℕ) (x y : Bool) → (T x → T y) → T (step P C mark o row x) → T (step P C mark o row y)
step_rises P C mark (One s a) row x y up h = h
step_rises P C mark (Two s a b) row true true up h = h
step_rises P C mark (Two s a b) row true false up h = absurd (up tt)
step_rises P C mark (Two s a b) row false true up h = two_rises s (mark a row) (mark b row) h
step_rises P C mark (Two s a b) row false false up h = h

module _ (P C : ℕ) (h_c : 1 ≤ C) (mark : ℕ → ℕ → Bool) (o : Operator) where
  rises : (k row : ℕ) → T (ending P C mark o false k row) → T (ending P C mark o true k row)
  unfolding ending
  rises zero row h = tt
  rises (suc k) row h =
      step_rises P C mark o row (ending P C mark o false k (after P C row)) (ending P C mark o true k (after P C row)) (rises k (after P C row)) h

  -- from a row on, as far as the last one
  run_on : (k row : ℕ) → row + k < P + C → further P C k row ≡ row + k
  unfolding further
  run_on zero row l = omega arith
  run_on (suc k) row l =
      ap (further P C k) (after_other P C row (omega arith)) ∙ run_on k (row + 1) (omega arith) ∙ omega arith

  one_more : (k row : ℕ) → further P C (suc k) row ≡ after P C (further P C k row)
  unfolding further
  one_more zero row = refl
  one_more (suc k) row = one_more k (after P C row)

  -- C rows after row P comes row P again
  round : further P C C P ≡ P
  unfolding last
  round =
      let c : C ≡ suc (C - 1) = omega arith in
      let at : P + (C - 1) ≡ last P C = omega arith in
      ap (λ (k : ℕ). further P C k P) c
      ∙ one_more (C - 1) P
      ∙ ap (after P C) (run_on (C - 1) P (omega arith) ∙ at)
      ∙ after_last P C

  -- Once round the cycle is as good as twice.
  once : following P C mark o (C + C) P ≡ following P C mark o C P
  once =
      follows P C mark o (C + C) P
      ∙ in_two P C mark o (end_of o) C C P
      ∙ ap (λ (row : ℕ). ending P C mark o (ending P C mark o (end_of o) C row) C P) round
      ∙ again (λ end. ending P C mark o end C P) (rises C P) (end_of o)
      ∙ sym (follows P C mark o C P)

  -- THE EQUATION, on every row.
  pub ahead_step : (row : ℕ) → row < P + C → label_by P C mark After o row ≡ step P C mark o row (label_by P C mark After o (after P C row))
  unfolding label_by following last
  ahead_step row l = by_cases (dec_lt (suc row) (P + C)) inside (λ h. at_last (omega arith))
    where
      inside : suc row < P + C → following P C mark o (P + C - row + C) row ≡ step P C mark o row (following P C mark o (P + C - after P C row + C) (after P C row))
      inside h =
          let next = after_other P C row h in
          let left : P + C - row + C ≡ suc (P + C - after P C row + C) = omega arith in
          ap (λ (k : ℕ). following P C mark o k row) left

      at_last : row ≡ P + C - 1 → following P C mark o (P + C - row + C) row ≡ step P C mark o row (following P C mark o (P + C - after P C row + C) (after P C row))
      at_last e =
          let next : after P C row ≡ P = ap (after P C) e ∙ after_last P C in
          let left : P + C - row + C ≡ suc C = omega arith in
          let all : P + C - P + C ≡ C + C = omega arith in
          ap (λ (k : ℕ). following P C mark o k row) left
          ∙ ap (step P C mark o row) (ap (following P C mark o C) next ∙ sym once ∙ ap (λ (k : ℕ). following P C mark o k P) (sym all) ∙ ap (λ (r : ℕ). following P C mark o (P + C - r + C) r) (sym next))

-- ---- the least and the greatest solution

after_below : (P C : ℕ) → 1 ≤ C → (row : ℕ) → row < P + C → after P C row < P + C
unfolding last
after_below P C h_c row l =
    by_cases (dec_lt (suc row) (P + C)) (λ q. omega (arith, after_other P C row q))
    (λ q. let e : row ≡ P + C - 1 = omega arith in let next : after P C row ≡ P = ap (after P C) e ∙ after_last P C in omega arith)

module _ (P C : ℕ) (h_c : 1 ≤ C) (mark : ℕ → ℕ → Bool) (o : Operator) (m : ℕ → Bool)
    (solves : (row : ℕ) → row < P + C → m row ≡ step P C mark o row (m (after P C row))) where
  -- U made is true only where every solution of its equation is.
  pub least : end_of o ≡ false → (k row : ℕ) → row < P + C → T (following P C mark o k row) → T (m row)
  unfolding following
  least e zero row l h = absurd (subst T e h)
  least e (suc k) row l h =
      let next = after P C row in
      subst⁻¹ T (solves row l) (step_rises P C mark o row (following P C mark o k next) (m next) (least e k next (after_below P C h_c row l)) h)

  -- R made is true wherever some solution of its equation is.
  pub greatest : end_of o ≡ true → (k row : ℕ) → row < P + C → T (m row) → T (following P C mark o k row)
  unfolding following
  greatest e zero row l h = subst⁻¹ T e tt
  greatest e (suc k) row l h =
      let next = after P C row in
      step_rises P C mark o row (m next) (following P C mark o k next) (greatest e k next (after_below P C h_c row l)) (subst T (solves row l) h)
