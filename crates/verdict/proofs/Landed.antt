-- A term on the passes of a cycle row, looked at by where its shift lands, is what the run gives. Assumes nothing.
use Prim.Native.Nat.{ℕ, suc, ◌+◌, ◌*◌, ◌-◌, ◌≤◌}
use native.Mathlib.Omega.{arith}
use mathlib.Core.Path.{◌≡◌, refl, sym, ap, ap₂, ◌∙◌}
use mathlib.Core.Bool.{true}
use mathlib.Core.List.{List}
use lib.IntN.{ℤ, pos, negsuc, sub_ℕ}
use Rattle.cltlb.specs.Run.{Seen, under}
use Rattle.cltlb.specs.Fits.{shift_fits, term_fits}
use Rattle.cltlb.specs.declared.Term.{Term}
use Rattle.cltlb.specs.declared.Term.TheVariants.{Constant, Reading}
use Rattle.cltlb.proofs.Fits as fits
use Rattle.fields.proofs.Differences.{sub_pos, sub_eq, pos_sub, negsuc_sub}
use Rattle.plan.specs.Layout.{top_of, drift_of}
use Rattle.plan.specs.Run.{reading_on, reading_at, run_of}
use Rattle.plan.specs.inner.Lifted.{lowered}
use Rattle.plan.specs.inner.Sizes.{farthest, Fitting}
use Rattle.plan.specs.declared.landing.Landing.{Landing}
use Rattle.plan.specs.declared.sizes.Sizes.{Sizes}
use Rattle.plan.proofs.Fits.{reached}
use Rattle.plan.specs.inner.Landing.{landing_row, landing_off}
use Rattle.plan.proofs.Landings.{lands_on_row, lands_off, reading_on_landing}
use Rattle.plan.proofs.Shifts.{shifted, in_run}
use Rattle.plan.proofs.Pinned.{sees_under}
use Rattle.verdict.specs.Lines.{Line}
use Rattle.verdict.specs.Rows.{channel_line, term_line, term_top, judge_from}
use Rattle.verdict.specs.Tops.{judge_under}
use Rattle.verdict.specs.inner.Reach.{back, reach, latest}
use Rattle.verdict.specs.inner.Landed.{shift_in, Lands, BothLand, Reached, LandsAt, landed_line, judge_landed}
use Rattle.verdict.specs.declared.Comparison.{Comparison}

-- ---- shifts of terms

pub shift_fits_lem : (v : ℕ) (x : Term) → term_fits v x ≡ true → shift_fits (shift_in x) ≡ true
unfolding shift_fits
shift_fits_lem v (Constant z) e = refl
shift_fits_lem v (Reading channel shift) e = (fits.reading_fits v channel shift e).1

-- Where a term's shift lands, from its code.
lands : (z : Sizes) (row : ℕ) (x : Term) (l : Landing) (code : ℕ) → (sub_ℕ code 4 ≡ shift_in x) × (code ≤ 8)
    → (l.row ≡ landing_row z.start z.cycle row code) × (l.off ≡ landing_off z.start z.cycle row code) → Lands z row x l
lands z row x l code c h = record { code = code; is_code = c.0; small = c.1; on_row = h.0; off_by = h.1 }

pub both_land : (z : Sizes) (row : ℕ) (x : Comparison) (left right : Landing) {m n : ℕ} → (sub_ℕ m 4 ≡ shift_in x.left) × (m ≤ 8)
    → (left.row ≡ landing_row z.start z.cycle row m) × (left.off ≡ landing_off z.start z.cycle row m)
    → (sub_ℕ n 4 ≡ shift_in x.right) × (n ≤ 8) → (right.row ≡ landing_row z.start z.cycle row n) × (right.off ≡ landing_off z.start z.cycle row n)
    → BothLand z row x left right
both_land z row x left right c h d k = (lands z row x.left left _ c h, lands z row x.right right _ d k)

-- A term that does not reach before the cycle is read in the cycle.
pub read_inside : (x : Term) (p t code : ℕ) → p + reach x ≤ t → sub_ℕ code 4 ≡ shift_in x → p + 4 ≤ t + code
unfolding reach back
read_inside (Constant z) p t code h g = let k = (sub_eq code 4 0 0).0 (g ∙ pos_sub 0) in omega arith
read_inside (Reading channel (pos n)) p t code h g = let k = (sub_eq code 4 n 0).0 (g ∙ pos_sub n) in omega arith
read_inside (Reading channel (negsuc n)) p t code h g = let k = (sub_eq code 4 0 (suc n)).0 (g ∙ negsuc_sub n) in omega arith

-- A shift has one code.
pub one_code : (m n : ℕ) {s : ℤ} → sub_ℕ m 4 ≡ s → sub_ℕ n 4 ≡ s → m ≡ n
one_code m n e f = let k = (sub_eq m 4 n 4).0 (e ∙ sym f) in omega arith

-- ---- what is seen by a landing

module _ {plan : List ℕ} {z : Sizes} (f : Fitting plan z) where
  -- the landing on pass k, of a position that is not before the cycle
  pub lands_at : (row : ℕ) → z.start ≤ row → (x : Term) (l : Landing) → (there : Lands z row x l) → (k : ℕ) → LandsAt plan z l (row + k * z.cycle + there.code) k
  unfolding LandsAt
  lands_at row h x l there k g = (
    there.on_row ∙ sym (lands_on_row z.start z.cycle f.a_cycle row there.code h k g),
    ap (λ (n : ℕ). k + n) there.off_by ∙ sym (lands_off z.start z.cycle f.a_cycle row there.code h k g),
    λ channel. rw (there.on_row, there.off_by) (by_sizes channel),
  )
    where
      -- the law is said of the sizes in the plan's bytes
      by_sizes : (channel : ℕ) → reading_at plan channel (row + k * z.cycle + there.code - 4)
          ≡ reading_on plan channel (landing_row z.start z.cycle row there.code) (k + landing_off z.start z.cycle row there.code - 4)
      by_sizes channel =
          rw (← f.p_is, ← f.c_is)
          (reading_on_landing plan (rw f.c_is f.a_cycle) channel row there.code k (rw f.p_is h) (rw (f.p_is, f.c_is) g))

  -- in reach of the lookups
  pub landing_reached : (l : Landing) (ahead k : ℕ) → LandsAt plan z l ahead k → z.start + 4 ≤ ahead → ahead ≤ farthest z
      → Reached z l k
  unfolding LandsAt
  landing_reached l ahead k lands g h =
      let there = lands g in
      let within = reached f (ahead - 4) (omega arith) in
      (omega (arith, there.0, within.0), omega (arith, there.1), omega (arith, there.1, within.1))

  -- so are those of a term that does not reach before the cycle
  line_reached : (row : ℕ) → z.start ≤ row → (x : Term) (l : Landing) → Lands z row x l → (k : ℕ) → z.start + reach x ≤ row + k * z.cycle → row + k * z.cycle ≤ latest z
      → Reached z l k
  line_reached row h x l there k g far =
      landing_reached l (row + k * z.cycle + there.code) k (lands_at row h x l there k)
      (read_inside x z.start (row + k * z.cycle) there.code g there.is_code) (omega (arith, there.small, f.a_cycle))

  pub both_reached : (row : ℕ) → z.start ≤ row → (x : Comparison) (left right : Landing) → BothLand z row x left right → (k : ℕ)
      → (z.start + reach x.left ≤ row + k * z.cycle) × (z.start + reach x.right ≤ row + k * z.cycle) → row + k * z.cycle ≤ latest z
      → Reached z left k × Reached z right k
  both_reached row h x left right there k g far = (line_reached row h x.left left there.0 k g.0 far, line_reached row h x.right right there.1 k g.1 far)

  pub seen_landed : (channel : ℕ) (l : Landing) (ahead k top a : ℕ) → LandsAt plan z l ahead k → z.start + 4 ≤ ahead → pos top ≡ top_of plan channel
      → lowered a ≡ reading_on plan channel l.row (k + l.off - 4) → {s : Seen} → s ≡ under (pos top) (lowered a) → s ≡ run_of plan channel (sub_ℕ ahead 4)
  unfolding LandsAt
  seen_landed channel l ahead k top a lands g t e h =
      sees_under plan channel top a h t (ap (under (top_of plan channel)) (e ∙ sym ((lands g).2 channel)) ∙ in_run plan channel ahead (omega arith))

  -- the line of a term, by its landing
  pub landed_line_is : (row : ℕ) → z.start ≤ row → (x : Term) (l : Landing) → Lands z row x l → (k : ℕ) → z.start + reach x ≤ row + k * z.cycle
      → landed_line plan x l k ≡ term_line plan x (row + k * z.cycle)
  unfolding term_line channel_line LandsAt
  landed_line_is row h (Constant c) l there k g = refl
  landed_line_is row h (Reading channel shift) l there k g =
      let low = read_inside (Reading channel shift) z.start (row + k * z.cycle) there.code g there.is_code in
      let lands = lands_at row h (Reading channel shift) l there k low in
      rw (shifted (row + k * z.cycle) there.code shift there.is_code ∙ sub_pos (row + k * z.cycle + there.code) 4 (omega arith), f.p_is, f.c_is)
      (ap₂ (λ (m n : ℤ). record { at = m; step = n }) (sym (lands.2 channel)) (ap (λ (r : ℕ). drift_of plan r channel) lands.0))

  -- the verdict on two terms, by their landings
  pub judged_landed : (row : ℕ) → z.start ≤ row → (x : Comparison) (left right : Landing) → BothLand z row x left right → (k : ℕ)
      → (z.start + reach x.left ≤ row + k * z.cycle) × (z.start + reach x.right ≤ row + k * z.cycle)
      → judge_landed plan x left right k ≡ judge_from plan x (row + k * z.cycle)
  judged_landed row h x left right there k g =
      ap₂ (λ (X Y : Line). judge_under x.relation (term_top plan x.left) X (term_top plan x.right) Y)
      (landed_line_is row h x.left left there.0 k g.0) (landed_line_is row h x.right right there.1 k g.1)

  -- from a position on at which neither term is read before the cycle
  module _ (t : ℕ) (x : Comparison) (left right : Landing) (there : BothLand z t x left right) (g : (z.start + reach x.left ≤ t) × (z.start + reach x.right ≤ t)) where
    here : t ≡ t + 0 * z.cycle
    here = omega arith

    pub from_reached : t ≤ latest z → Reached z left 0 × Reached z right 0
    from_reached far = both_reached t (omega (arith, g.0)) x left right there 0 (omega (arith, g.0), omega (arith, g.1)) (omega arith)

    pub judged_from : judge_landed plan x left right 0 ≡ judge_from plan x t
    judged_from = judged_landed t (omega (arith, g.0)) x left right there 0 (omega (arith, g.0), omega (arith, g.1)) ∙ ap (judge_from plan x) (sym here)
