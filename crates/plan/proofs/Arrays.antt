-- The two arrays as parts of the plan's bytes, and the entries of their rows and channels. Assumes nothing.
use Prim.Native.Nat.{ℕ, ◌+◌, ◌*◌, ◌-◌, ◌≤◌, ◌<◌}
use native.Mathlib.Nat.{mul-le-mul, mul-le-mul_right}
use native.Mathlib.Omega.{arith}
use mathlib.Core.Path.{◌≡◌, refl, sym, ap, ◌∙◌}
use mathlib.Core.List.{List}
use lib.ListN.{take, drop}
use lib.IntN.{ℤ, pos, sub_ℕ, ◌+ℤ◌, ◌*ℤ◌}
use Rattle.cltlb.specs.Run.{before_run, under}
use Rattle.plan.specs.Layout.{rows, stored_rows, head_length, array_length, top_of, readings, drifts, cell, entry, stored_reading, stored_drift, reading_of, drift_of}
use Rattle.plan.specs.inner.Sizes.{all_rows, all_stored, most_stored, Fitting}
use Rattle.plan.specs.declared.sizes.Sizes.{Sizes}
use Rattle.plan.specs.Positions.{row_of, pass_of}
use Rattle.plan.specs.Run.{reading_on, reading_at, run_of}
use Rattle.plan.proofs.Fits.{rows_are}
use Rattle.plan.proofs.Lines.{no_passes}
use Rattle.plan.proofs.Shifts.{before_run_lem, as_stored}

pub array_le : (v w : ℕ) → v ≤ 8 → w ≤ most_stored → v * w ≤ 2080
array_le v w h k = mul-le-mul h k

pub cell_lt : (v w row channel : ℕ) → row < w → channel < v → 4 * cell v row channel + 4 ≤ array_length v w
unfolding cell array_length
cell_lt v w row channel h k = let g : (row + 1) * v ≤ w * v = mul-le-mul_right v (omega arith) in omega arith

module _ {plan : List ℕ} {z : Sizes} (fits : Fitting plan z) where
  -- the bytes of one array
  abbrev pub long : ℕ
  long = array_length z.channels (all_stored z)

  -- the two arrays are the parts that are handed on
  pub readings_part : (a b : ℕ) → a ≡ head_length z.channels → b ≡ head_length z.channels + long → take (b - a) (drop a plan) ≡ readings plan
  unfolding readings stored_rows rows
  readings_part a b f g = let k : b - a ≡ long = omega arith in rw (k, f, fits.v_is, fits.p_is, fits.c_is, fits.l_is) refl

  pub drifts_part : (b e : ℕ) → b ≡ head_length z.channels + long → e ≡ b + long → take (e - b) (drop b plan) ≡ drifts plan
  unfolding drifts stored_rows rows
  drifts_part b e f g = let k : e - b ≡ long = omega arith in rw (k, f, fits.v_is, fits.p_is, fits.c_is, fits.l_is) refl

  -- what is read of a row that is stored and a channel
  module _ (k channel : ℕ) {i : ℕ} (hi : i ≡ cell z.channels k channel) {d : List ℕ} (hd : d ≡ drifts plan) where
    pub drift_read : {x : ℤ} → x ≡ entry d i → x ≡ stored_drift plan k channel
    unfolding stored_drift
    drift_read h = rw (fits.v_is, ← hi, ← hd) h

    pub value_read : (pass : ℕ) {r : List ℕ} → r ≡ readings plan → {x : ℤ} → x ≡ entry r i +ℤ pos pass *ℤ entry d i → x ≡ stored_reading plan k channel +ℤ pos pass *ℤ stored_drift plan k channel
    unfolding stored_reading stored_drift
    value_read pass hr h = rw (fits.v_is, ← hi, ← hd, ← hr) h

  -- a row is stored behind the lead-in
  module _ (row channel : ℕ) where
    pub drift_behind : {x : ℤ} → x ≡ stored_drift plan (z.lead + row) channel → x ≡ drift_of plan row channel
    unfolding drift_of
    drift_behind h = rw fits.l_is h

    pub value_behind : (pass : ℕ) {x : ℤ} → x ≡ stored_reading plan (z.lead + row) channel +ℤ pos pass *ℤ stored_drift plan (z.lead + row) channel → x ≡ reading_on plan channel row pass
    unfolding reading_on reading_of drift_of
    value_behind pass h = rw fits.l_is h

  -- the value on the row and the pass of a position
  pub value_at : (channel t : ℕ) {row pass : ℕ} → row ≡ row_of z.start z.cycle t → pass ≡ pass_of z.start z.cycle t
      → reading_on plan channel row pass ≡ reading_at plan channel t
  unfolding reading_at
  value_at channel t e g = rw (e, g, fits.p_is, fits.c_is) refl

  -- before the lead-in, and in it or on pass 0
  pub before_lead : (channel ahead : ℕ) → z.lead + ahead < 4 → before_run ≡ run_of plan channel (sub_ℕ ahead 4)
  before_lead channel ahead h = before_run_lem plan channel ahead (rw fits.l_is h)

  pub stored_value : (channel ahead : ℕ) → 4 ≤ z.lead + ahead → ahead < all_rows z + 4 → {x : ℤ}
      → x ≡ stored_reading plan (z.lead + ahead - 4) channel +ℤ pos 0 *ℤ stored_drift plan (z.lead + ahead - 4) channel → under (top_of plan channel) x ≡ run_of plan channel (sub_ℕ ahead 4)
  stored_value channel ahead l h e =
      let few : ahead < rows plan + 4 = rw (rows_are fits) h in
      ap (under (top_of plan channel)) (e ∙ no_passes (stored_reading plan (z.lead + ahead - 4) channel) (stored_drift plan (z.lead + ahead - 4) channel))
      ∙ sym (rw fits.l_is at (as_stored plan channel ahead (rw fits.l_is l) few))
