-- Where nothing drifts in the cycle, the numbers of the rows on which shifts land tell all, whatever the pass. Assumes nothing.
use Prim.Native.Nat.{ℕ, ◌+◌, ◌*◌, ◌-◌, ◌≤◌, ◌<◌}
use native.Mathlib.Nat.{zero-add}
use native.Mathlib.Decide.{dec_lt}
use native.Mathlib.Omega.{arith}
use mathlib.Core.Path.{◌≡◌, refl, sym, ap, ap₂, ◌∙◌}
use mathlib.Core.Bool.{Bool, true, beq}
use mathlib.Core.List.{List}
use mathlib.Core.Logic.{by_cases}
use lib.IntN.{ℤ, pos, sub_ℕ, ◌+ℤ◌, ◌*ℤ◌, +ℤ_idr, *ℤ-zero}
use Rattle.cltlb.specs.Run.{under}
use Rattle.cltlb.specs.Truth.{value_at}
use Rattle.cltlb.specs.Fits.{term_fits}
use Rattle.cltlb.specs.declared.Term.{Term}
use Rattle.cltlb.specs.declared.Term.TheVariants.{Constant, Reading}
use Rattle.cltlb.proofs.Fits.{reading_fits}
use Rattle.fields.proofs.Differences.{sub_pos}
use Rattle.plan.specs.Layout.{lead_rows, readings, entry, top_of, stored_reading, reading_of, drift_of}
use Rattle.plan.specs.Positions.{row_of, pass_of}
use Rattle.plan.specs.Run.{reading_on, reading_at, run_of}
use Rattle.plan.specs.inner.Drifts.{StoredStill, Still}
use Rattle.plan.specs.inner.Sizes.{all_rows, all_stored, most_stored, Fitting}
use Rattle.plan.specs.declared.sizes.Sizes.{Sizes}
use Rattle.plan.proofs.Lines.{no_passes}
use Rattle.plan.proofs.Rows.{row_start, pass_start, row_ge, row_lt}
use Rattle.plan.proofs.Shifts.{shifted, in_run}
use Rattle.plan.proofs.Pinned.{no_top}
use Rattle.table.specs.Layout.{marked}
use Rattle.verdict.specs.Comparisons.{tested}
use Rattle.verdict.specs.Lines.{Line, level}
use Rattle.verdict.specs.Tops.{judge_under}
use Rattle.verdict.specs.Rows.{channel_line, term_line, term_top, test_at}
use Rattle.verdict.specs.inner.Landed.{shift_in}
use Rattle.verdict.specs.inner.Reach.{TermsFit}
use Rattle.verdict.specs.declared.Comparison.{Comparison}
use Rattle.lanes.specs.declared.columns.Column.{Column}
use Rattle.lanes.specs.declared.columns.Side.{Side}
use Rattle.lanes.specs.declared.rows.ComparisonPart.{ComparisonPart}
use Rattle.lanes.specs.declared.rows.Sides.{Sides}
use Rattle.lanes.specs.inner.Columns.{number_in, IsSide, Reaches, FewChannels, Stands, lane_number}
use Rattle.lanes.specs.inner.Direct.{numbers_say, OfPart, LongLanes}
use Rattle.lanes.specs.inner.Lanes.{Laid}
use Rattle.lanes.specs.inner.Positions.{position_says}
use Rattle.lanes.specs.inner.Still.{landed_number, still_says, Lands}
use Rattle.lanes.proofs.Comparing.{level_agrees}
use Rattle.lanes.proofs.Laying.{reading_in_lane}
use Rattle.lanes.proofs.Positions.{says_alone, says_settled}
use Rattle.lanes.proofs.Reaching.{reaches_row}
use Rattle.lanes.proofs.Standing.{few_channels, column_number, column_reaches}

-- ---- readings and terms

module _ {plan : List ℕ} {z : Sizes} (f : Fitting plan z) (still : Still plan z.start (all_rows z)) where
  abbrev P : ℕ
  P = z.start

  abbrev C : ℕ
  C = z.cycle

  -- no cycle row drifts
  drift_still : (channel s : ℕ) → channel < z.channels → P ≤ s → drift_of plan (row_of P C s) channel ≡ pos 0
  unfolding Still StoredStill drift_of
  drift_still channel s l h = still (lead_rows plan + row_of P C s) channel (omega (arith, row_ge P C s h)) (omega (arith, row_lt P C f.a_cycle s)) (rw f.v_is l)

  -- so that a reading is that of its row
  reading_still : (channel s : ℕ) → channel < z.channels → reading_at plan channel s ≡ reading_of plan (row_of P C s) channel
  unfolding reading_at reading_on
  reading_still channel s l = rw (f.p_is, f.c_is) (by_cases (dec_lt s P) start (λ h. in_cycle (omega arith)))
    where
      r : ℤ
      r = reading_of plan (row_of P C s) channel

      start : s < P → r +ℤ pos (pass_of P C s) *ℤ drift_of plan (row_of P C s) channel ≡ r
      start h = ap (λ (n : ℕ). r +ℤ pos n *ℤ drift_of plan (row_of P C s) channel) (pass_start P C s (omega arith)) ∙ no_passes r (drift_of plan (row_of P C s) channel)

      in_cycle : P ≤ s → r +ℤ pos (pass_of P C s) *ℤ drift_of plan (row_of P C s) channel ≡ r
      in_cycle h =
          ap (λ (d : ℤ). r +ℤ pos (pass_of P C s) *ℤ d) (drift_still channel s l h)
          ∙ ap (λ (y : ℤ). r +ℤ y) (*ℤ-zero (pos (pass_of P C s)))
          ∙ +ℤ_idr r

  module _ (values : List ℕ) (laid : Laid (readings plan) z.channels (all_stored z) values) where
    -- a row of a channel, in its lane
    in_lane : (channel s : ℕ) → channel < z.channels → reading_of plan (row_of P C s) channel ≡ entry values (channel * all_stored z + (z.lead + row_of P C s + 4 - 4))
    unfolding reading_of
    in_lane channel s l =
        let lead = f.l_is in
        let place : lead_rows plan + row_of P C s ≡ z.lead + row_of P C s + 4 - 4 = omega arith in
        ap (λ (k : ℕ). stored_reading plan k channel) place
        ∙ reading_in_lane f channel (z.lead + row_of P C s + 4 - 4) l (omega (arith, row_lt P C f.a_cycle s)) laid

    module _ (x : Term) (code t : ℕ) (g : sub_ℕ code 4 ≡ shift_in x) (low : 4 ≤ t + code) (fits : term_fits z.channels x ≡ true) where
      -- what is seen of a term,
      seen_still : value_at (run_of plan) x t ≡ under (term_top plan x) (landed_number values z x code t)
      unfolding value_at
      seen_still = go x g fits
        where
          go : (x : Term) → sub_ℕ code 4 ≡ shift_in x → term_fits z.channels x ≡ true → value_at (run_of plan) x t ≡ under (term_top plan x) (landed_number values z x code t)
          go (Constant c) e h = sym (no_top c)
          go (Reading channel shift) e h =
              let there = (reading_fits z.channels channel shift h).0 in
              ap (run_of plan channel) (shifted t code shift e)
              ∙ sym (in_run plan channel (t + code) low)
              ∙ ap (under (top_of plan channel)) (reading_still channel (t + code - 4) there ∙ in_lane channel (t + code - 4) there)

      -- and its line, where it is read in the cycle
      line_still : P + 4 ≤ t + code → term_line plan x t ≡ level (landed_number values z x code t)
      unfolding term_line channel_line
      line_still inside = go x g fits
        where
          go : (x : Term) → sub_ℕ code 4 ≡ shift_in x → term_fits z.channels x ≡ true → term_line plan x t ≡ level (landed_number values z x code t)
          go (Constant c) e h = refl
          go (Reading channel shift) e h =
              let there = (reading_fits z.channels channel shift h).0 in
              rw (shifted t code shift e ∙ sub_pos (t + code) 4 low, f.p_is, f.c_is)
              (ap₂ (λ (m n : ℤ). record { at = m; step = n })
              (reading_still channel (t + code - 4) there ∙ in_lane channel (t + code - 4) there)
              (drift_still channel (t + code - 4) there (omega arith)))

-- ---- positions

module _ {plan : List ℕ} (values table : List ℕ) (part : ComparisonPart) (sides : Sides) (f : Fitting plan part.sizes) (still : Still plan part.sizes.start (all_rows part.sizes))
    (laid : Laid (readings plan) part.sizes.channels (all_stored part.sizes) values) (sl : IsSide plan part.comparison.left sides.left) (sr : IsSide plan part.comparison.right sides.right)
    (fits : TermsFit part.sizes part.comparison) where
  abbrev z : Sizes
  z = part.sizes

  abbrev x : Comparison
  x = part.comparison

  abbrev left : Side
  left = sides.left

  abbrev right : Side
  right = sides.right

  pub still_says_lem : (lines t : ℕ) → (4 ≤ t + left.code) × (4 ≤ t + right.code) → (lines ≤ t → (z.start + 4 ≤ t + left.code) × (z.start + 4 ≤ t + right.code))
      → still_says values table part sides t ≡ position_says plan table part lines t
  unfolding test_at
  still_says_lem lines t low inside = rw (sl.is_top, sr.is_top) (by_cases (dec_lt t lines) (λ h. says_alone plan x lines mark t h (sym test) refl) (λ h. settled (omega arith)))
    where
      mark : Bool
      mark = marked (all_rows z) table part.i (row_of z.start z.cycle t)

      a : ℤ
      a = landed_number values z x.left left.code t

      b : ℤ
      b = landed_number values z x.right right.code t

      s : ℤ
      s = term_top plan x.left

      u : ℤ
      u = term_top plan x.right

      test : test_at plan x t ≡ tested x.relation (under s a) (under u b)
      test = ap₂ (tested x.relation) (seen_still f still values laid x.left left.code t sl.is_code low.0 fits.0) (seen_still f still values laid x.right right.code t sr.is_code low.1 fits.1)

      settled : lines ≤ t → beq mark (tested x.relation (under s a) (under u b)) ≡ position_says plan table part lines t
      settled h =
          says_settled plan x lines mark t h
          (ap₂ (λ (p q : Line). judge_under x.relation s p u q)
          (sym (line_still f still values laid x.left left.code t sl.is_code low.0 fits.0 (inside h).0)) (sym (line_still f still values laid x.right right.code t sr.is_code low.1 fits.1 (inside h).1)))
          (level_agrees x.relation s a u b mark)

-- ---- direct positions

-- On pass 0 a term is read on the row that is its position.
on_pass_0 : (values : List ℕ) (z : Sizes) (x : Term) (code t : ℕ) → 4 ≤ t + code → t + code < all_rows z + 4 → lane_number values (all_stored z) x code (z.lead + t) ≡ landed_number values z x code t
on_pass_0 values z (Constant c) code t low high = refl
on_pass_0 values z (Reading channel shift) code t low high =
    let row = row_start z.start z.cycle (t + code - 4) (omega arith) in
    let place : z.lead + t + code - 4 ≡ z.lead + row_of z.start z.cycle (t + code - 4) + 4 - 4 = omega arith in
    ap (λ (j : ℕ). entry values (channel * all_stored z + j)) place

module _ (values table : List ℕ) (part : ComparisonPart) (sides : Sides) where
  pub direct_still : (t : ℕ) → t < all_rows part.sizes → (4 ≤ t + sides.left.code) × (4 ≤ t + sides.right.code) → (t + sides.left.code < all_rows part.sizes + 4) × (t + sides.right.code < all_rows part.sizes + 4)
      → numbers_say values table part sides t ≡ still_says values table part sides t
  direct_still t few low high =
      ap₂ beq (ap (marked (all_rows part.sizes) table part.i) (sym (row_start part.sizes.start part.sizes.cycle t few)))
      (ap₂ (tested part.comparison.relation)
      (ap (under (pos sides.left.top)) (on_pass_0 values part.sizes part.comparison.left sides.left.code t low.0 high.0))
      (ap (under (pos sides.right.top)) (on_pass_0 values part.sizes part.comparison.right sides.right.code t low.1 high.1)))

-- ---- the number of a term, in its lane

module _ {z : Sizes} {x : Term} {code t : ℕ} (d : Lands z x code t) where
  pub few_stored : (1 ≤ all_stored z) × (all_stored z ≤ most_stored)
  few_stored = let cycle = d.a_cycle in let lead = d.few_lead in let rows = d.few_rows in (omega arith, omega arith)

  pub few_term : FewChannels x
  few_term = few_channels z.channels x d.few_channels d.fits

  -- a row, behind the lead-in
  pub row_stored : {row : ℕ} → row ≡ row_of z.start z.cycle (t + code - 4) → z.lead + row < all_stored z
  row_stored e = let within = row_lt z.start z.cycle d.a_cycle (t + code - 4) in omega arith

  module _ (values : List ℕ) (c : Column) (stands : Stands (all_stored z) 0 4 x c) {row : ℕ} (e : row ≡ row_of z.start z.cycle (t + code - 4)) where
    pub lane_reaches : LongLanes z values → Reaches values c (z.lead + row + 1)
    lane_reaches long = reaches_row values c (all_stored z) _ (column_reaches (all_stored z) 0 4 (omega arith) values z.channels (all_stored z) x c d.fits long.0 (omega arith) stands) (row_stored e)

    pub landed_is : number_in values c (z.lead + row) ≡ landed_number values z x code t
    landed_is =
        ap (λ (j : ℕ). number_in values c (z.lead + j)) e
        ∙ column_number (all_stored z) 0 4 (omega arith) values x c (z.lead + row_of z.start z.cycle (t + code - 4)) stands
        ∙ ap (lane_number values (all_stored z) x 4) (zero-add (z.lead + row_of z.start z.cycle (t + code - 4)))

module _ {table : List ℕ} {part : ComparisonPart} {sides : Sides} (d : OfPart table part sides) (t : ℕ) (early : t < all_rows part.sizes + 4) where
  pub left_lands : 4 ≤ t + sides.left.code → Lands part.sizes part.comparison.left sides.left.code t
  left_lands h = record { few_channels = d.few_channels; a_cycle = d.a_cycle; few_lead = d.few_lead; few_rows = d.sized.few_rows; fits = d.terms_fit.0; few_code = d.few_codes.0; early = early; in_run = h }

  pub right_lands : 4 ≤ t + sides.right.code → Lands part.sizes part.comparison.right sides.right.code t
  right_lands h = record { few_channels = d.few_channels; a_cycle = d.a_cycle; few_lead = d.few_lead; few_rows = d.sized.few_rows; fits = d.terms_fit.1; few_code = d.few_codes.1; early = early; in_run = h }
