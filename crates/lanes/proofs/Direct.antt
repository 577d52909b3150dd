-- Direct positions: what stands in the lanes is what the run gives there, and the marks are held against that. Assumes nothing.
use Prim.Native.Nat.{ℕ, suc, ◌+◌, ◌-◌, max, ◌≤◌, ◌<◌}
use native.Mathlib.Decide.{dec_lt}
use native.Mathlib.Omega.{arith}
use mathlib.Core.Path.{◌≡◌, refl, sym, ap, ap₂, ◌∙◌}
use mathlib.Core.Bool.{Bool, true, false, not, beq}
use mathlib.Core.List.{List}
use mathlib.Core.Logic.{by_cases}
use lib.IntN.{ℤ, pos, negsuc, sub_ℕ}
use Rattle.cltlb.specs.Run.{Seen, number, pinned, before_run, under}
use Rattle.cltlb.specs.Truth.{value_at}
use Rattle.cltlb.specs.Fits.{term_fits}
use Rattle.cltlb.specs.declared.Term.{Term}
use Rattle.cltlb.specs.declared.Term.TheVariants.{Constant, Reading}
use Rattle.cltlb.proofs.Fits.{reading_fits}
use Rattle.fields.proofs.Differences.{sub_pos, sub_eq, pos_sub, negsuc_sub}
use Rattle.plan.specs.Layout.{start_rows, cycle_rows, lead_rows, readings, drifts, top_of, stored_reading, stored_drift, reading_of, drift_of}
use Rattle.plan.specs.Positions.{row_of}
use Rattle.plan.specs.Run.{run_of}
use Rattle.plan.specs.inner.Sizes.{all_rows, all_stored, Fitting}
use Rattle.plan.specs.declared.sizes.Sizes.{Sizes}
use Rattle.plan.proofs.Fits.{rows_are}
use Rattle.plan.proofs.Lines.{reading_on_pass_0}
use Rattle.plan.proofs.Rows.{row_start}
use Rattle.plan.proofs.Shifts.{shifted, before_run_lem, as_stored}
use Rattle.plan.proofs.Pinned.{no_top}
use Rattle.verdict.specs.Comparisons.{of_number, seen_pinned, of_numbers, tested}
use Rattle.verdict.specs.Tops.{judge_under}
use Rattle.verdict.specs.Lines.{Line}
use Rattle.verdict.specs.Rows.{channel_line, term_line, term_top, test_at}
use Rattle.verdict.specs.inner.Landed.{shift_in}
use Rattle.verdict.specs.inner.Reach.{back, reach, TermsFit, AsksLeft}
use Rattle.verdict.specs.declared.Comparison.{Comparison}
use Rattle.verdict.specs.declared.Relation.{Relation}
use Rattle.verdict.specs.declared.Relation.TheVariants.{Below, Same, Within, Pinned}
use Rattle.lanes.specs.inner.Agreement.{verdict_agrees}
use Rattle.lanes.specs.inner.Columns.{IsSide, lane_number, lane_line, lane_seen}
use Rattle.lanes.specs.declared.columns.Side.{Side}
use Rattle.lanes.specs.declared.rows.ComparisonPart.{ComparisonPart}
use Rattle.lanes.specs.declared.rows.Sides.{Sides}
use Rattle.lanes.specs.inner.Direct.{numbers_say, lines_say}
use Rattle.lanes.specs.inner.Lanes.{Laid}
use Rattle.lanes.specs.inner.Positions.{position_says}
use Rattle.table.specs.Layout.{marked}
use Rattle.lanes.proofs.Laying.{reading_in_lane, drift_in_lane}
use Rattle.lanes.proofs.Positions.{alone, settled}

-- ---- shifts

-- A term that reaches farther back than a position and a lead-in of so many rows is read before the run there.
pub reads_before : (x : Term) (lead t code : ℕ) → sub_ℕ code 4 ≡ shift_in x → lead + t < reach x → lead + (t + code) < 4
unfolding reach back
reads_before (Constant z) lead t code g h = absurd (omega arith)
reads_before (Reading channel (pos n)) lead t code g h = absurd (omega arith)
reads_before (Reading channel (negsuc n)) lead t code g h = let k = (sub_eq code 4 0 (suc n)).0 (g ∙ negsuc_sub n) in omega arith

-- A term that is read before the run.
seen_before : (plan : List ℕ) (x : Term) (t code : ℕ) → sub_ℕ code 4 ≡ shift_in x → lead_rows plan + (t + code) < 4 → value_at (run_of plan) x t ≡ before_run
unfolding value_at
seen_before plan (Constant z) t code g h = absurd (let k = (sub_eq code 4 0 0).0 (g ∙ pos_sub 0) in omega arith)
seen_before plan (Reading channel shift) t code g h = ap (run_of plan channel) (shifted t code shift g) ∙ sym (before_run_lem plan channel (t + code) h)

blank_left : (relation : Relation) {x : Seen} (y : Seen) → x ≡ before_run → tested relation x y ≡ false
unfolding tested of_number of_numbers seen_pinned
blank_left Below y e = rw e refl
blank_left Same y e = rw e refl
blank_left (Within n) y e = rw e refl
blank_left Pinned y e = rw e refl

blank_right : (test : ℤ → ℤ → Bool) (x : Seen) {y : Seen} → y ≡ before_run → of_numbers test x y ≡ false
unfolding of_number of_numbers
blank_right test x e = rw e (go x)
  where
    go : (s : Seen) → of_numbers test s before_run ≡ false
    go (number a) = refl
    go pinned = refl
    go before_run = refl

blank_either : (relation : Relation) → (relation ≡ Pinned → ⊥) → (x : Seen) {y : Seen} → y ≡ before_run → tested relation x y ≡ false
unfolding tested
blank_either Below h x e = blank_right _ x e
blank_either Same h x e = blank_right _ x e
blank_either (Within n) h x e = blank_right _ x e
blank_either Pinned h x e = absurd (h refl)

-- ---- terms at direct positions

module _ {plan : List ℕ} {z : Sizes} (f : Fitting plan z) (t : ℕ) (x : Term) (code : ℕ) (g : sub_ℕ code 4 ≡ shift_in x) (fits : term_fits z.channels x ≡ true) (high : t + code < all_rows z + 4)
    (values : List ℕ) (laid : Laid (readings plan) z.channels (all_stored z) values) where
  -- what is seen of a term, in the lead-in or on pass 0, stands in its lane
  pub seen_in_lane : 4 ≤ z.lead + t + code → value_at (run_of plan) x t ≡ under (term_top plan x) (lane_number values (all_stored z) x code (z.lead + t))
  unfolding value_at
  seen_in_lane low = go x g fits
    where
      k : ℕ
      k = z.lead + t + code - 4

      go : (x : Term) → sub_ℕ code 4 ≡ shift_in x → term_fits z.channels x ≡ true → value_at (run_of plan) x t ≡ under (term_top plan x) (lane_number values (all_stored z) x code (z.lead + t))
      go (Constant c) e h = sym (no_top c)
      go (Reading channel shift) e h =
          let lead = f.l_is in
          let place : lead_rows plan + (t + code) - 4 ≡ k = omega arith in
          ap (run_of plan channel) (shifted t code shift e)
          ∙ as_stored plan channel (t + code) (omega arith) (rw (rows_are f) high)
          ∙ ap (λ (j : ℕ). under (top_of plan channel) (stored_reading plan j channel)) place
          ∙ ap (under (top_of plan channel)) (reading_in_lane f channel k (reading_fits z.channels channel shift h).0 (omega arith) laid)

  -- and so does its line, where it is read not before position 0
  pub line_in_lane : 4 ≤ t + code → (steps : List ℕ) → Laid (drifts plan) z.channels (all_stored z) steps → lane_line values steps (all_stored z) x code (z.lead + t) ≡ term_line plan x t
  unfolding term_line channel_line reading_of drift_of
  line_in_lane low steps down = go x g fits
    where
      at : ℕ
      at = t + code - 4

      k : ℕ
      k = z.lead + t + code - 4

      place : lead_rows plan + at ≡ k
      place = let lead = f.l_is in omega arith

      on_row : row_of (start_rows plan) (cycle_rows plan) at ≡ at
      on_row = rw (f.p_is, f.c_is) (row_start z.start z.cycle at (omega arith))

      go : (x : Term) → sub_ℕ code 4 ≡ shift_in x → term_fits z.channels x ≡ true → lane_line values steps (all_stored z) x code (z.lead + t) ≡ term_line plan x t
      go (Constant c) e h = refl
      go (Reading channel shift) e h =
          let there = (reading_fits z.channels channel shift h).0 in
          rw (shifted t code shift e ∙ sub_pos (t + code) 4 low, on_row)
          (ap₂ (λ (m n : ℤ). record { at = m; step = n })
          (sym (reading_on_pass_0 plan channel at (rw (rows_are f) (omega arith)) ∙ ap (λ (j : ℕ). stored_reading plan j channel) place ∙ reading_in_lane f channel k there (omega arith) laid))
          (sym (ap (λ (j : ℕ). stored_drift plan j channel) place ∙ drift_in_lane f channel k there (omega arith) down)))

-- ---- direct positions

module _ {plan : List ℕ} (table : List ℕ) (part : ComparisonPart) (sides : Sides) (f : Fitting plan part.sizes) (sl : IsSide plan part.comparison.left sides.left) (sr : IsSide plan part.comparison.right sides.right)
    (fits : TermsFit part.sizes part.comparison) (lines t : ℕ) (few : t < all_rows part.sizes) where
  abbrev z : Sizes
  z = part.sizes

  abbrev x : Comparison
  x = part.comparison

  abbrev left : Side
  left = sides.left

  abbrev right : Side
  right = sides.right

  -- The row of a position of pass 0 is the position.
  abbrev mark : Bool
  mark = marked (all_rows z) table part.i t

  own_row : row_of z.start z.cycle t ≡ t
  own_row = row_start z.start z.cycle t few

  -- where a term is read before the run
  pub before_says : AsksLeft x → z.lead + t < max (reach x.left) (reach x.right) → t < lines → not mark ≡ position_says plan table part lines t
  unfolding test_at
  before_says asks l h = sym (alone plan table part lines t t own_row h ∙ ap (beq mark) blank ∙ is_not mark)
    where
      is_not : (b : Bool) → beq b false ≡ not b
      is_not true = refl
      is_not false = refl

      before : (y : Term) (code : ℕ) → sub_ℕ code 4 ≡ shift_in y → z.lead + t < reach y → value_at (run_of plan) y t ≡ before_run
      before y code g s = seen_before plan y t code g (rw f.l_is (reads_before y z.lead t code g s))

      blank : test_at plan x t ≡ false
      blank =
          by_cases (dec_lt (z.lead + t) (reach x.left))
          (λ s. blank_left x.relation (value_at (run_of plan) x.right t) (before x.left left.code sl.is_code s))
          (λ s. blank_either x.relation (λ e. omega (arith, asks e)) (value_at (run_of plan) x.left t) (before x.right right.code sr.is_code (omega arith)))

  module _ (values : List ℕ) (laid : Laid (readings plan) z.channels (all_stored z) values) (high : (t + left.code < all_rows z + 4) × (t + right.code < all_rows z + 4)) where
    -- where both terms are read in the lead-in or on pass 0, by the numbers, before the lines
    pub numbers_say_lem : (4 ≤ z.lead + t + left.code) × (4 ≤ z.lead + t + right.code) → t < lines → numbers_say values table part sides t ≡ position_says plan table part lines t
    unfolding test_at
    numbers_say_lem low h = sym (alone plan table part lines t t own_row h ∙ ap (beq mark) seen)
      where
        seen : test_at plan x t ≡ tested x.relation (lane_seen values (all_stored z) x.left left (z.lead + t)) (lane_seen values (all_stored z) x.right right (z.lead + t))
        seen =
            rw (sl.is_top, sr.is_top)
            (ap₂ (tested x.relation)
            (seen_in_lane f t x.left left.code sl.is_code fits.0 high.0 values laid low.0)
            (seen_in_lane f t x.right right.code sr.is_code fits.1 high.1 values laid low.1))

    -- where both are read on pass 0, from there on by the lines
    pub lines_say_lem : (4 ≤ t + left.code) × (4 ≤ t + right.code) → lines ≤ t → (steps : List ℕ) → Laid (drifts plan) z.channels (all_stored z) steps
        → lines_say values table part sides steps t ≡ position_says plan table part lines t
    lines_say_lem low h steps down =
        rw (sl.is_top, sr.is_top)
        (ap₂ (λ (p q : Line). verdict_agrees (judge_under x.relation (term_top plan x.left) p (term_top plan x.right) q) mark)
        (line_in_lane f t x.left left.code sl.is_code fits.0 high.0 values laid low.0 steps down)
        (line_in_lane f t x.right right.code sr.is_code fits.1 high.1 values laid low.1 steps down))
        ∙ sym (settled plan table part lines t t own_row h)
