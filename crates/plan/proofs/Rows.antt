-- The rows of positions: which row and pass a position has, and which row comes after. Assumes nothing.
use Prim.Native.Nat.{ℕ, suc, ◌+◌, ◌*◌, ◌-◌, ◌/◌, ◌%◌, ◌≤◌, ◌<◌}
use native.Mathlib.Nat.{mod-lt, mod-eq_of_lt, suc-mod, mod_self, add-mul-mod_self_right, le-mul_of_pos_right, add-mul-div_right, div-eq_of_lt, div-lt_iff_lt-mul, div-add-mod'}
use native.Mathlib.Decide.{dec_lt}
use native.Mathlib.Omega.{arith}
use mathlib.Core.Path.{◌≡◌, sym, ap, ◌∙◌}
use mathlib.Core.Logic.{by_cases}
use borrow.Author.Tests.{lt-ltb, le-ltb, eq-eqb, ne_eqb}
use Rattle.plan.specs.Positions.{row_of, pass_of, last, after}

module _ (P C : ℕ) where
  -- On pass 0 a position is a row.
  pub row_start : (t : ℕ) → t < P + C → row_of P C t ≡ t
  unfolding row_of
  row_start t h = simp (lt-ltb _ _ h)

  pub pass_start : (t : ℕ) → t < P + C → pass_of P C t ≡ 0
  unfolding pass_of
  pass_start t h = simp (lt-ltb _ _ h)

  -- From the first cycle row on, one rule gives the row, and one the pass.
  pub row_cycle : (t : ℕ) → P ≤ t → row_of P C t ≡ P + (t - P) % C
  unfolding row_of
  row_cycle t h =
      by_cases (dec_lt t (P + C))
      (λ l. row_start t l ∙ rw (mod-eq_of_lt {n = t - P} {m = C} (omega arith)) (omega arith))
      (λ l. simp (le-ltb t (P + C) (omega arith)))

  pub pass_cycle : (t : ℕ) → P ≤ t → pass_of P C t ≡ (t - P) / C
  unfolding pass_of
  pass_cycle t h =
      by_cases (dec_lt t (P + C))
      (λ l. pass_start t l ∙ sym (div-eq_of_lt {n = t - P} {m = C} (omega arith)))
      (λ l. simp (le-ltb t (P + C) (omega arith)))

  pub after_last : after P C (last P C) ≡ P
  unfolding after
  after_last = simp (eq-eqb (last P C) (last P C))

  pub after_other : (row : ℕ) → suc row < P + C → after P C row ≡ row + 1
  unfolding after last
  after_other row h = simp (ne_eqb row (P + C - 1) (λ e. omega arith))

  pub row_ge : (t : ℕ) → P ≤ t → P ≤ row_of P C t
  row_ge t h = rw (row_cycle t h) (omega arith)

  module _ (h_c : 0 < C) where
    pub row_lt : (t : ℕ) → row_of P C t < P + C
    row_lt t =
        by_cases (dec_lt t (P + C))
        (λ l. rw (row_start t l) l)
        (λ l. rw (row_cycle t (omega arith)) (omega (arith, mod-lt (t - P) h_c)))

    pub suc_last : suc (last P C) ≡ P + C
    unfolding last
    suc_last = omega arith

    pub last_lt : last P C < P + C
    last_lt = omega (arith, suc_last)

    pub start_le_last : P ≤ last P C
    start_le_last = omega (arith, suc_last)

    -- A position of the cycle is its row, and as many cycles more as its pass says.
    pub row_split : (t : ℕ) → P ≤ t → t ≡ row_of P C t + pass_of P C t * C
    row_split t h = rw (row_cycle t h, pass_cycle t h) (omega (arith, div-add-mod' (t - P) C))

    -- Before the n-th cycle from the first on a pass is below n.
    pub pass_lt : (t n : ℕ) → 0 < n → t < P + n * C → pass_of P C t < n
    pass_lt t n h l =
        by_cases (dec_lt t (P + C))
        (λ s. rw (pass_start t s) h)
        (λ s. rw (pass_cycle t (omega arith)) ((div-lt_iff_lt-mul {k = C} {x = t - P} {y = n} h_c).1 (omega arith)))

    beyond : (t k : ℕ) → P ≤ t → t + k * C - P ≡ (t - P) + k * C
    beyond t k h = omega arith

    -- The same row comes again a cycle later, on the next pass.
    pub row_later : (t k : ℕ) → P ≤ t → row_of P C (t + k * C) ≡ row_of P C t
    row_later t k h =
        row_cycle (t + k * C) (omega arith)
        ∙ ap (λ (x : ℕ). P + x % C) (beyond t k h)
        ∙ ap (λ (x : ℕ). P + x) (add-mul-mod_self_right (t - P) k C)
        ∙ sym (row_cycle t h)

    pub pass_later : (t k : ℕ) → P ≤ t → pass_of P C (t + k * C) ≡ pass_of P C t + k
    pass_later t k h =
        pass_cycle (t + k * C) (omega arith)
        ∙ ap (λ (x : ℕ). x / C) (beyond t k h)
        ∙ add-mul-div_right (t - P) k h_c
        ∙ ap (λ (x : ℕ). x + k) (sym (pass_cycle t h))

    -- The first position of row w is w; a cycle row comes again at w + C, w + 2 × C and on.
    pub row_again : (w k : ℕ) → P ≤ w → w < P + C → row_of P C (w + k * C) ≡ w
    row_again w k h l = row_later w k h ∙ row_start w l

    pub pass_again : (w k : ℕ) → P ≤ w → w < P + C → pass_of P C (w + k * C) ≡ k
    pass_again w k h l = pass_later w k h ∙ ap (λ (x : ℕ). x + k) (pass_start w l) ∙ omega arith

    -- From any position on, a cycle row comes.
    pub row_comes : (w t : ℕ) → P ≤ w → w < P + C → (n : ℕ) × (row_of P C (t + n) ≡ w)
    row_comes w t h l = (w + t * C - t, ap (row_of P C) e ∙ row_again w t h l)
      where
        e : t + (w + t * C - t) ≡ w + t * C
        e = omega (arith, le-mul_of_pos_right t h_c)

    -- The position after lies on the row after.
    pub row_suc : (t : ℕ) → row_of P C (suc t) ≡ after P C (row_of P C t)
    row_suc t = by_cases (dec_lt (suc (row_of P C t)) (P + C)) more (λ l. again (omega (arith, row_lt t)))
      where
        e : P ≤ t → suc t - P ≡ suc (t - P)
        e h = omega arith

        cycles : P ≤ t → row_of P C (suc t) ≡ P + suc ((t - P) % C) % C
        cycles h = row_cycle (suc t) (omega arith) ∙ ap (λ (x : ℕ). P + x % C) (e h) ∙ ap (λ (x : ℕ). P + x) (suc-mod (t - P) C)

        more : suc (row_of P C t) < P + C → row_of P C (suc t) ≡ after P C (row_of P C t)
        more l =
            by_cases (dec_lt t P)
            (λ b. row_start (suc t) (omega arith) ∙ (let s = row_start t (omega arith) in omega (arith, after_other (row_of P C t) l)))
            (λ b. let r = row_cycle t (omega arith) in cycles (omega arith) ∙ rw (mod-eq_of_lt {n = suc ((t - P) % C)} {m = C} (omega arith)) (omega (arith, after_other (row_of P C t) l)))

        again : suc (row_of P C t) ≡ P + C → row_of P C (suc t) ≡ after P C (row_of P C t)
        again l =
            let h : P ≤ t = by_cases (dec_lt t P) (λ b. let s = row_start t (omega arith) in omega arith) (λ b. omega arith) in
            let r = row_cycle t h in
            let full : suc ((t - P) % C) ≡ C = omega arith in
            cycles h
            ∙ ap (λ (x : ℕ). P + x % C) full
            ∙ ap (λ (x : ℕ). P + x) (mod_self C)
            ∙ (let at_last : row_of P C t ≡ last P C = omega (arith, suc_last) in let same : P + 0 ≡ P = omega arith in same ∙ sym (ap (after P C) at_last ∙ after_last))
