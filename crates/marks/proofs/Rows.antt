-- The rows of a plan's table and the positions that lie on them. Assumes nothing.
use mathlib.Core.Path.{◌≡◌, sym, ap, ◌∙◌, subst}
use mathlib.Core.List.{List}
use mathlib.Core.Logic.{◌⊎◌, inl, inr, by_cases}
use Prim.Native.Nat.{ℕ, suc, ◌+◌, ◌*◌, ◌≤◌, ◌<◌}
use native.Mathlib.Nat.{one-mul}
use native.Mathlib.Decide.{dec_lt}
use native.Mathlib.Omega.{arith}
use Rattle.plan.specs.Layout.{start_rows, cycle_rows, rows}
use Rattle.plan.specs.Positions.{row_of, pass_of, last, after}
use Rattle.plan.proofs.Rows.{row_start, row_ge, row_lt, row_later, row_comes, row_split, row_suc, last_lt, start_le_last, after_last, after_other}

-- the last row
abbrev pub last_row : List ℕ → ℕ
last_row plan = last (start_rows plan) (cycle_rows plan)

-- the row of a position
abbrev pub row_at : List ℕ → ℕ → ℕ
row_at plan t = row_of (start_rows plan) (cycle_rows plan) t

module _ (plan : List ℕ) where
  -- The first position of a row is the row's number.
  pub first_position : (row : ℕ) → row < rows plan → row_at plan row ≡ row
  unfolding rows
  first_position row l = row_start (start_rows plan) (cycle_rows plan) row l

  pub start_row : (t : ℕ) → t < start_rows plan → row_at plan t ≡ t
  start_row t l = row_start (start_rows plan) (cycle_rows plan) t (omega arith)

  pub from_start : (t : ℕ) → start_rows plan ≤ t → start_rows plan ≤ row_at plan t
  from_start t h = row_ge (start_rows plan) (cycle_rows plan) t h

  module _ (h_c : 1 ≤ cycle_rows plan) where
    pub is_row : (t : ℕ) → row_at plan t < rows plan
    unfolding rows
    is_row t = row_lt (start_rows plan) (cycle_rows plan) h_c t

    pub row_0 : 0 < rows plan
    unfolding rows
    row_0 = omega arith

    pub last_is_row : last_row plan < rows plan
    unfolding rows
    last_is_row = last_lt (start_rows plan) (cycle_rows plan) h_c

    pub start_to_last : start_rows plan ≤ last_row plan
    start_to_last = start_le_last (start_rows plan) (cycle_rows plan) h_c

    -- A cycle row comes again on every pass, and after every position.
    pub again : (row k : ℕ) → start_rows plan ≤ row → row_at plan (row + k * cycle_rows plan) ≡ row_at plan row
    again row k h = row_later (start_rows plan) (cycle_rows plan) h_c row k h

    pub once_more : (t : ℕ) → start_rows plan ≤ t → row_at plan (t + cycle_rows plan) ≡ row_at plan t
    once_more t h = ap (λ (c : ℕ). row_at plan (t + c)) (sym (one-mul (cycle_rows plan))) ∙ again t 1 h

    -- The position after the first pass is row P on pass 1.
    pub second_pass : suc (last_row plan) ≡ start_rows plan + 1 * cycle_rows plan
    unfolding last
    second_pass = omega arith

    -- A position of the cycle is its row and some passes more.
    pub row_and_pass : (t : ℕ) → start_rows plan ≤ t → t ≡ row_at plan t + pass_of (start_rows plan) (cycle_rows plan) t * cycle_rows plan
    row_and_pass t h = row_split (start_rows plan) (cycle_rows plan) h_c t h

    -- A position that lies on a cycle row is that row and some passes more.
    pub on_cycle_row : (row t : ℕ) → start_rows plan ≤ row → row_at plan t ≡ row → t ≡ row + pass_of (start_rows plan) (cycle_rows plan) t * cycle_rows plan
    on_cycle_row row t low e =
        by_cases (dec_lt t (start_rows plan))
        (λ l. absurd (let same = start_row t l in omega arith))
        (λ l. row_and_pass t (omega arith) ∙ ap (λ (x : ℕ). x + pass_of (start_rows plan) (cycle_rows plan) t * cycle_rows plan) e)

    pub comes : (row t : ℕ) → start_rows plan ≤ row → row < rows plan → (n : ℕ) × (row_at plan (t + n) ≡ row)
    unfolding rows
    comes row t h l = row_comes (start_rows plan) (cycle_rows plan) h_c row t h l

    pub row_after : (t : ℕ) → after (start_rows plan) (cycle_rows plan) (row_at plan t) ≡ row_at plan (suc t)
    row_after t = sym (row_suc (start_rows plan) (cycle_rows plan) h_c t)

    -- The row after a row is that of the position after its first one.
    pub after_row_lem : (row : ℕ) → row < rows plan → after (start_rows plan) (cycle_rows plan) row ≡ row_at plan (suc row)
    after_row_lem row l = ap (after (start_rows plan) (cycle_rows plan)) (sym (first_position row l)) ∙ row_after row

    pub after_is_row : (row : ℕ) → row < rows plan → after (start_rows plan) (cycle_rows plan) row < rows plan
    after_is_row row l = subst (λ (x : ℕ). x < rows plan) (sym (after_row_lem row l)) (is_row (suc row))

    -- The next position lies on the next row, or on row P where this one lies on row W - 1.
    pub next_position : (t : ℕ)
        → ((suc (row_at plan t) < rows plan) × (row_at plan (suc t) ≡ suc (row_at plan t))) ⊎ ((row_at plan t ≡ last_row plan) × (row_at plan (suc t) ≡ start_rows plan))
    unfolding rows last
    next_position t =
        by_cases (dec_lt (suc (row_at plan t)) (start_rows plan + cycle_rows plan))
        (λ l. inl (l, row_suc (start_rows plan) (cycle_rows plan) h_c t ∙ after_other (start_rows plan) (cycle_rows plan) (row_at plan t) l ∙ omega arith))
        (λ l. let e : row_at plan t ≡ last (start_rows plan) (cycle_rows plan) = omega (arith, row_lt (start_rows plan) (cycle_rows plan) h_c t) in
        inr (e, row_suc (start_rows plan) (cycle_rows plan) h_c t ∙ ap (after (start_rows plan) (cycle_rows plan)) e ∙ after_last (start_rows plan) (cycle_rows plan)))

    pub after_last_row : row_at plan (suc (last_row plan)) ≡ start_rows plan
    after_last_row =
        sym (row_after (last_row plan))
        ∙ ap (after (start_rows plan) (cycle_rows plan)) (first_position (last_row plan) last_is_row)
        ∙ after_last (start_rows plan) (cycle_rows plan)
