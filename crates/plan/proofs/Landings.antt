-- A shift from a cycle row lands on one row, a fixed number of passes off, on every pass on which the shifted position is not
-- before the cycle. `code` is the shift + 4. Assumes nothing.
use Prim.Native.Nat.{ℕ, ◌+◌, ◌*◌, ◌-◌, ◌/◌, ◌%◌, ◌≤◌, ◌<◌}
use native.Mathlib.Nat.{mod-lt, mod-eq_of_lt, div-eq_of_lt, add-mul-mod_self_right, add-mul-div_right, div-lt_iff_lt-mul}
use native.Mathlib.Omega.{arith}
use mathlib.Core.Path.{◌≡◌, refl, sym, ap, ap₂, ◌∙◌}
use mathlib.Core.List.{List}
use lib.IntN.{ℤ, pos, sub_ℕ, ◌+ℤ◌, ◌*ℤ◌}
use Rattle.fields.proofs.Differences.{sub_pos}
use Rattle.plan.specs.Layout.{start_rows, cycle_rows, reading_of, drift_of}
use Rattle.plan.specs.Positions.{row_of, pass_of}
use Rattle.plan.specs.Run.{reading_on, reading_at}
use Rattle.plan.specs.inner.Landing.{landed_behind, landing_row, landing_off}
use Rattle.plan.proofs.Rows.{row_cycle, pass_cycle}
use Rattle.plan.proofs.Shifts.{shifted}

-- The landing by its rule.
pub row_by_rule : (P C row code : ℕ) → P + (row + code + 4 * C - (P + 4)) % C ≡ landing_row P C row code
unfolding landing_row landed_behind
row_by_rule P C row code = refl

pub off_by_rule : (P C row code : ℕ) → (row + code + 4 * C - (P + 4)) / C ≡ landing_off P C row code
unfolding landing_off landed_behind
off_by_rule P C row code = refl

-- The row that lies so far behind row P, going round, as a number of 64 bits.
pub row_fits : (P C n : ℕ) → 0 < C → P + C ≤ 256 → P + n % C < 18446744073709551616
row_fits P C n h_c few = omega (arith, mod-lt n h_c)

module _ (P C : ℕ) (h_c : 0 < C) (row code : ℕ) (h : P ≤ row) where
  -- The landing is a cycle row,
  pub landing_in_cycle : (P ≤ landing_row P C row code) × (landing_row P C row code < P + C)
  unfolding landing_row
  landing_in_cycle = omega (arith, mod-lt (landed_behind P C row code) h_c)

  -- at most four passes off, where the row is one of the first pass and the shift is -4 to 4.
  pub landing_near : row < P + C → code ≤ 8 → landing_off P C row code ≤ 8
  unfolding landing_off landed_behind
  landing_near l g =
      let few : (row + code + 4 * C - (P + 4)) / C < 9 = (div-lt_iff_lt-mul {k = C} {x = row + code + 4 * C - (P + 4)} {y = 9} h_c).1 (omega arith) in
      omega arith

  -- A shifted position that is on pass 0, and not before the cycle, is itself the landing.
  module _ (low : P + 4 ≤ row + code) (high : row + code < P + C + 4) where
    four_on : landed_behind P C row code ≡ (row + code - (P + 4)) + 4 * C
    unfolding landed_behind
    four_on = omega arith

    pub lands_at_once : row + code - 4 ≡ landing_row P C row code
    unfolding landing_row
    lands_at_once =
        let own : (row + code - (P + 4)) % C ≡ row + code - (P + 4) = mod-eq_of_lt {n = row + code - (P + 4)} {m = C} (omega arith) in
        let same = ap (λ (x : ℕ). x % C) four_on ∙ add-mul-mod_self_right (row + code - (P + 4)) 4 C ∙ own in
        omega arith

    pub lands_on_pass : 4 ≡ landing_off P C row code
    unfolding landing_off
    lands_on_pass =
        let own : (row + code - (P + 4)) / C ≡ 0 = div-eq_of_lt {n = row + code - (P + 4)} {m = C} (omega arith) in
        let same = ap (λ (x : ℕ). x / C) four_on ∙ add-mul-div_right (row + code - (P + 4)) 4 h_c in
        omega arith

  -- On pass k the shifted position lies on the landing's row,
  module _ (k : ℕ) (in_cycle : P + 4 ≤ row + k * C + code) where
    k_on : (row + k * C + code - 4 - P) + 4 * C ≡ landed_behind P C row code + k * C
    unfolding landed_behind
    k_on = omega arith

    pub lands_on_row : row_of P C (row + k * C + code - 4) ≡ landing_row P C row code
    unfolding landing_row
    lands_on_row =
        row_cycle P C (row + k * C + code - 4) (omega arith)
        ∙ ap (λ (x : ℕ). P + x)
        (sym (add-mul-mod_self_right (row + k * C + code - 4 - P) 4 C) ∙ ap (λ (x : ℕ). x % C) k_on ∙ add-mul-mod_self_right (landed_behind P C row code) k C)

    -- and as many passes off as the landing says.
    pub lands_off : pass_of P C (row + k * C + code - 4) + 4 ≡ k + landing_off P C row code
    unfolding landing_off
    lands_off =
        let passed = pass_cycle P C (row + k * C + code - 4) (omega arith) in
        let on = sym (add-mul-div_right (row + k * C + code - 4 - P) 4 h_c) ∙ ap (λ (x : ℕ). x / C) k_on ∙ add-mul-div_right (landed_behind P C row code) k h_c in
        omega arith

-- The reading at the shifted position is the landed row's reading + (pass + off) × drift, on every pass, without limit, on which
-- that position is P or later.
pub reading_on_landing_at_every_pass : (plan : List ℕ) → 0 < cycle_rows plan → (channel row code k : ℕ) → start_rows plan ≤ row
    → start_rows plan + 4 ≤ row + k * cycle_rows plan + code
    → reading_at plan channel (row + k * cycle_rows plan + code - 4)
    ≡ reading_of plan (landing_row (start_rows plan) (cycle_rows plan) row code) channel
    +ℤ (pos k +ℤ sub_ℕ (landing_off (start_rows plan) (cycle_rows plan) row code) 4) *ℤ drift_of plan (landing_row (start_rows plan) (cycle_rows plan) row code) channel
unfolding reading_at reading_on
reading_on_landing_at_every_pass plan h_c channel row code k h g =
    ap₂ (λ (r : ℕ) (n : ℤ). reading_of plan r channel +ℤ n *ℤ drift_of plan r channel) (lands_on_row P C h_c row code h k g) passes
  where
    P : ℕ
    P = start_rows plan

    C : ℕ
    C = cycle_rows plan

    off : ℕ
    off = landing_off (start_rows plan) (cycle_rows plan) row code

    later : pass_of P C (row + k * C + code - 4) + 4 ≡ k + off
    later = lands_off P C h_c row code h k g

    passes : pos (pass_of P C (row + k * C + code - 4)) ≡ pos k +ℤ sub_ℕ off 4
    passes = sym (shifted k off (sub_ℕ off 4) refl ∙ sub_pos (k + off) 4 (omega (arith, later)) ∙ ap pos (omega (arith, later)))

-- The same, with the pass as one number, which is not below 0.
pub reading_on_landing : (plan : List ℕ) → 0 < cycle_rows plan → (channel row code k : ℕ) → start_rows plan ≤ row → start_rows plan + 4 ≤ row + k * cycle_rows plan + code
    → reading_at plan channel (row + k * cycle_rows plan + code - 4)
    ≡ reading_on plan channel (landing_row (start_rows plan) (cycle_rows plan) row code) (k + landing_off (start_rows plan) (cycle_rows plan) row code - 4)
unfolding reading_on
reading_on_landing plan h_c channel row code k h g =
    reading_on_landing_at_every_pass plan h_c channel row code k h g
    ∙ ap (λ (n : ℤ). reading_of plan (landing_row P C row code) channel +ℤ n *ℤ drift_of plan (landing_row P C row code) channel)
    (shifted k off (sub_ℕ off 4) refl ∙ sub_pos (k + off) 4 (omega (arith, lands_off P C h_c row code h k g)))
  where
    P : ℕ
    P = start_rows plan

    C : ℕ
    C = cycle_rows plan

    off : ℕ
    off = landing_off (start_rows plan) (cycle_rows plan) row code
