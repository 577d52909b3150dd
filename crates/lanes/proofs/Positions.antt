-- The rows of a plan, each on all its passes, are the positions before the lines, each alone, and one cycle of them from there on,
-- each on every pass from there on: where marks are right on the ones they are right on the others. Assumes nothing.
use Prim.Native.Nat.{ℕ, zero, suc, ◌+◌, ◌*◌, ◌-◌, ◌/◌, ◌≤◌, ◌<◌}
use native.Mathlib.Nat.{mod-lt, div-add-mod', mul-le-mul_right, le-mul_of_pos_right}
use native.Mathlib.Decide.{dec_lt}
use native.Mathlib.Omega.{arith}
use mathlib.Core.Path.{◌≡◌, refl, sym, ap, ◌∙◌}
use mathlib.Core.Bool.{Bool, true, false, ◌&&◌, beq, and-false, and_assoc, and-eq-true_iff}
use mathlib.Core.List.{List}
use mathlib.Core.Logic.{by_cases}
use borrow.Author.Tests.{lt-ltb, le-ltb}
use Rattle.plan.specs.Positions.{row_of, pass_of}
use Rattle.plan.specs.inner.Sizes.{all_rows, Fitting}
use Rattle.plan.specs.declared.sizes.Sizes.{Sizes}
use Rattle.plan.proofs.Rows.{row_start, row_ge, row_lt, row_split, row_again}
use Rattle.table.specs.Layout.{marked}
use Rattle.table.specs.inner.Tables.{all_below}
use Rattle.table.proofs.AllBelow.{both_ways, all_each, each_all}
use Rattle.verdict.specs.Rows.{join, join_first, test_at, judge_from}
use Rattle.verdict.specs.inner.Reach.{reach, TermsFit}
use Rattle.verdict.specs.declared.Comparison.{Comparison}
use Rattle.verdict.specs.declared.Verdict.{Verdict}
use Rattle.verdict.specs.declared.Verdict.TheVariants.{AlwaysTrue, AlwaysFalse, Changes}
use Rattle.verdict.proofs.Values.{pass_test, cycle_is, on_cycle_row, on_start_row}
use Rattle.lanes.specs.declared.rows.ComparisonPart.{ComparisonPart}
use Rattle.lanes.specs.inner.Agreement.{verdict_agrees}
use Rattle.lanes.specs.inner.Direct.{agrees_on}
use Rattle.lanes.specs.inner.Positions.{says_at, position_says}
use Rattle.lanes.proofs.Comparing.{truth_agrees}

-- ---- a position by the test or by the lines

module _ (plan : List ℕ) (x : Comparison) (lines : ℕ) (mark : Bool) (t : ℕ) {r : Bool} where
  pub says_alone : t < lines → {truth : Bool} → truth ≡ test_at plan x t → r ≡ beq mark truth → r ≡ says_at plan x lines mark t
  says_alone h e g = rw (lt-ltb t lines h) (g ∙ ap (beq mark) e)

  pub says_settled : lines ≤ t → {v : Verdict} → v ≡ judge_from plan x t → r ≡ verdict_agrees v mark → r ≡ says_at plan x lines mark t
  says_settled h e g = rw (le-ltb t lines h) (g ∙ ap (λ w. verdict_agrees w mark) e)

-- before the lines, and from there on
module _ (plan table : List ℕ) (part : ComparisonPart) (lines t row : ℕ) (on : row_of part.sizes.start part.sizes.cycle t ≡ row) where
  pub alone : t < lines → position_says plan table part lines t ≡ beq (marked (all_rows part.sizes) table part.i row) (test_at plan part.comparison t)
  alone h = simp (on, lt-ltb t lines h)

  pub settled : lines ≤ t → position_says plan table part lines t ≡ verdict_agrees (judge_from plan part.comparison t) (marked (all_rows part.sizes) table part.i row)
  settled h = simp (on, le-ltb t lines h)

-- ---- passes in front of a verdict

-- A mark says what a verdict with a pass in front of it says, where it says what either says.
join_agrees : (b : Bool) (v : Verdict) (mark : Bool) → verdict_agrees (join b v) mark ≡ (beq mark b && verdict_agrees v mark)
join_agrees true AlwaysTrue true = refl
join_agrees true AlwaysTrue false = refl
join_agrees false AlwaysTrue true = refl
join_agrees false AlwaysTrue false = refl
join_agrees true AlwaysFalse true = refl
join_agrees true AlwaysFalse false = refl
join_agrees false AlwaysFalse true = refl
join_agrees false AlwaysFalse false = refl
join_agrees b Changes mark = sym (and-false (beq mark b))

joined_agrees : (f : ℕ → Bool) (n : ℕ) (v : Verdict) (mark : Bool) → verdict_agrees (join_first f n v) mark ≡ (all_below (λ k. beq mark (f k)) n && verdict_agrees v mark)
unfolding join_first all_below
joined_agrees f zero v mark = refl
joined_agrees f (suc n) v mark =
    joined_agrees f n (join (f n) v) mark
    ∙ ap (λ (b : Bool). all_below (λ k. beq mark (f k)) n && b) (join_agrees (f n) v mark)
    ∙ sym (and_assoc (all_below (λ k. beq mark (f k)) n) (beq mark (f n)) (verdict_agrees v mark))

-- ---- a row with as many passes in front as are early

-- The first pass on which a row lies not before a position, and not a cycle behind it.
first_pass : (C : ℕ) → 1 ≤ C → (d : ℕ) → (n : ℕ) × (d ≤ n * C) × (n * C < d + C)
first_pass C h_c d = ((d + C - 1) / C, omega (arith, div-add-mod' (d + C - 1) C, mod-lt (d + C - 1) h_c), omega (arith, div-add-mod' (d + C - 1) C))

module _ {plan : List ℕ} (table : List ℕ) (part : ComparisonPart) (f : Fitting plan part.sizes) (fits : TermsFit part.sizes part.comparison) (back : ℕ) (left : reach part.comparison.left ≤ back)
    (right : reach part.comparison.right ≤ back) where
  abbrev z : Sizes
  z = part.sizes

  abbrev x : Comparison
  x = part.comparison

  abbrev P : ℕ
  P = z.start

  abbrev C : ℕ
  C = z.cycle

  abbrev mark : ℕ → Bool
  mark = marked (all_rows z) table part.i

  abbrev on_row : ℕ → Bool
  on_row = agrees_on plan table (all_rows z) part.i x

  abbrev at : ℕ → Bool
  at = position_says plan table part (P + back)

  start_row : (row : ℕ) → row < P → on_row row ≡ at row
  start_row row h =
      ap (λ v. verdict_agrees v (mark row)) (sym (on_start_row f x row h (test_at plan x row) (test_at plan x row) refl refl))
      ∙ sym (truth_agrees (test_at plan x row) (mark row))
      ∙ sym (alone plan table part (P + back) row row (row_start P C row (omega arith)) (omega arith))

  -- a cycle row, with n passes looked at one by one
  abbrev early : ℕ → ℕ → Bool
  early row k = beq (mark row) (test_at plan x (row + k * C))

  cycle_row : (row n : ℕ) → P ≤ row → P + back ≤ row + n * C → on_row row ≡ (all_below (early row) n && verdict_agrees (judge_from plan x (row + n * C)) (mark row))
  cycle_row row n h g =
      ap (λ v. verdict_agrees v (mark row)) (sym (cycle_is f x fits row n h (omega arith, omega arith) _ refl refl ∙ on_cycle_row f x row h))
      ∙ joined_agrees (pass_test plan x row) n (judge_from plan x (row + n * C)) (mark row)
      ∙ ap (λ (c : ℕ). all_below (λ k. beq (mark row) (test_at plan x (row + k * c))) n && verdict_agrees (judge_from plan x (row + n * C)) (mark row)) f.c_is

  -- ---- marks that are right on all rows are right at all positions

  position_by_row : ((row : ℕ) → row < all_rows z → on_row row ≡ true) → (t : ℕ) → at t ≡ true
  position_by_row all t = by_cases (dec_lt t P) (λ h. sym (start_row t h) ∙ all t (omega arith)) (λ h. in_cycle (omega arith))
    where
      row : ℕ
      row = row_of P C t

      k : ℕ
      k = pass_of P C t

      in_cycle : P ≤ t → at t ≡ true
      in_cycle h =
          by_cases (dec_lt t (P + back))
          (λ g. alone plan table part (P + back) t row refl g ∙ ap (λ (u : ℕ). beq (mark row) (test_at plan x u)) split ∙ all_each (early row) (k + 1 + back) (seen (k + 1 + back) (omega (arith, low, le-mul_of_pos_right (k + 1 + back) f.a_cycle))).0 k (omega arith))
          (λ g. settled plan table part (P + back) t row refl (omega arith) ∙ ap (λ (u : ℕ). verdict_agrees (judge_from plan x u) (mark row)) split ∙ (seen k (omega (arith, split))).1)
        where
          low : P ≤ row
          low = row_ge P C t h

          split : t ≡ row + k * C
          split = row_split P C f.a_cycle t h

          seen : (n : ℕ) → P + back ≤ row + n * C → (all_below (early row) n ≡ true) × (verdict_agrees (judge_from plan x (row + n * C)) (mark row) ≡ true)
          seen n g = (and-eq-true_iff _ _).0 (sym (cycle_row row n low g) ∙ all row (row_lt P C f.a_cycle t))

  -- ---- and those that are right at the positions of one cycle from the lines on, and of those before, are right on all rows

  row_by_position : ((t : ℕ) → t < all_rows z + back → at t ≡ true) → (row : ℕ) → row < all_rows z → on_row row ≡ true
  row_by_position all row l = by_cases (dec_lt row P) (λ h. start_row row h ∙ all row (omega arith)) (λ h. in_cycle (omega arith))
    where
      in_cycle : P ≤ row → on_row row ≡ true
      in_cycle h = by_cases (dec_lt row (P + back)) later (λ g. seen 0 (λ k b. absurd (omega arith)) (omega arith) (omega arith))
        where
          again : (k : ℕ) → row_of P C (row + k * C) ≡ row
          again k = row_again P C f.a_cycle row k h l

          seen : (n : ℕ) → ((k : ℕ) → k < n → row + k * C < P + back) → P + back ≤ row + n * C → row + n * C < all_rows z + back → on_row row ≡ true
          seen n before low high =
              cycle_row row n h low
              ∙ (and-eq-true_iff _ _).1 (
                each_all (early row) n (λ k b. let g = before k b in sym (alone plan table part (P + back) (row + k * C) row (again k) g) ∙ all (row + k * C) (omega arith)),
                sym (settled plan table part (P + back) (row + n * C) row (again n) low) ∙ all (row + n * C) high,
              )

          later : row < P + back → on_row row ≡ true
          later g =
              let first = first_pass C f.a_cycle (P + back - row) in
              seen first.0 (λ k b. let s : (k + 1) * C ≤ first.0 * C = mul-le-mul_right C (omega arith) in omega (arith, first.2)) (omega (arith, first.1)) (omega (arith, first.2))

  pub positions_for_rows : all_below at (all_rows z + back) ≡ all_below on_row (all_rows z)
  positions_for_rows =
      both_ways _ _
      (λ e. each_all on_row (all_rows z) (row_by_position (all_each at (all_rows z + back) e)))
      (λ e. each_all at (all_rows z + back) (λ t l. position_by_row (all_each on_row (all_rows z) e) t))
