-- A column stands for a term on a stretch of rows. Assumes nothing.
use Prim.Native.Nat.{ℕ, ◌+◌, ◌*◌, ◌-◌, ◌≤◌, ◌<◌}
use native.Mathlib.Nat.{mul-le-mul_right}
use native.Mathlib.Omega.{arith}
use mathlib.Core.Path.{◌≡◌, refl, ap, ap₂, ◌∙◌, subst}
use mathlib.Core.Bool.{true}
use mathlib.Core.List.{List}
use lib.IntN.{ℤ}
use lib.ListN.{length}
use Rattle.cltlb.specs.Fits.{term_fits}
use Rattle.cltlb.specs.declared.Term.{Term}
use Rattle.cltlb.specs.declared.Term.TheVariants.{Constant, Reading}
use Rattle.cltlb.proofs.Fits.{reading_fits}
use Rattle.fields.specs.TwosComplement.{signed_of}
use Rattle.plan.specs.Layout.{array_length, entry}
use Rattle.lanes.specs.declared.columns.Column.{Column}
use Rattle.lanes.specs.declared.columns.Source.{Source}
use Rattle.lanes.specs.declared.columns.Source.TheVariants.{Lane, Fixed}
use Rattle.lanes.specs.inner.Columns.{number_from, number_in, drift_from, drift_in, line_in, Reaches, FewChannels, Stands, lane_number, lane_drift, lane_line}

pub few_channels : (v : ℕ) (x : Term) → v ≤ 8 → term_fits v x ≡ true → FewChannels x
unfolding FewChannels
few_channels v (Constant z) h f = tt
few_channels v (Reading channel shift) h f = omega (arith, (reading_fits v channel shift f).0)

module _ (w row code : ℕ) (h : 4 ≤ row + code) where
  -- its number and its drift on the k-th row
  pub column_number : (values : List ℕ) (x : Term) (c : Column) (k : ℕ) → Stands w row code x c → number_in values c k ≡ lane_number values w x code (row + k)
  unfolding Stands
  column_number values (Constant z) c k s = ap (λ (u : Source). number_from values u k) s.is_fixed ∙ s.value_is
  column_number values (Reading channel shift) c k s =
      let place : channel * w + (row + code - 4) + k ≡ channel * w + (row + k + code - 4) = omega arith in
      ap (λ (u : Source). number_from values u k) s ∙ ap (entry values) place

  pub column_drift : (drifts : List ℕ) (x : Term) (c : Column) (k : ℕ) → Stands w row code x c → drift_in drifts c k ≡ lane_drift drifts w x code (row + k)
  unfolding Stands
  column_drift drifts (Constant z) c k s = ap (λ (u : Source). drift_from drifts u k) s.is_fixed
  column_drift drifts (Reading channel shift) c k s =
      let place : channel * w + (row + code - 4) + k ≡ channel * w + (row + k + code - 4) = omega arith in
      ap (λ (u : Source). drift_from drifts u k) s ∙ ap (entry drifts) place

  pub column_line : (values drifts : List ℕ) (x : Term) (c : Column) (k : ℕ) → Stands w row code x c → line_in values drifts c k ≡ lane_line values drifts w x code (row + k)
  column_line values drifts x c k s = ap₂ (λ m n. record { at = m; step = n }) (column_number values x c k s) (column_drift drifts x c k s)

  -- it lies in lanes that have room for an array
  pub column_reaches : (lanes : List ℕ) (v count : ℕ) (x : Term) (c : Column) → term_fits v x ≡ true → array_length v w ≤ length lanes → row + count + code ≤ w + 4
      → Stands w row code x c → Reaches lanes c count
  unfolding Stands array_length
  column_reaches lanes v count (Constant z) c f l t s from e = let fixed = s.is_fixed in absurd (cc)
  column_reaches lanes v count (Reading channel shift) c f l t s from e =
      let here : from ≡ channel * w + (row + code - 4) = cc in
      let there = (reading_fits v channel shift f).0 in
      let last : (channel + 1) * w ≤ v * w = mul-le-mul_right w (omega arith) in
      omega arith

-- ---- the columns that are made

module _ (x : Term) where
  pub reading_few : (channel : ℕ) (shift : ℤ) → x ≡ Reading channel shift → FewChannels x → channel < 8
  unfolding FewChannels
  reading_few channel shift e h = subst FewChannels e h

  module _ (w row code : ℕ) where
    pub constant_stands : (top : ℕ) (z : ℤ) (p : ℕ) → x ≡ Constant z → signed_of 4 p ≡ z → Stands w row code x (record { source = Fixed p; top = top })
    unfolding Stands
    constant_stands top z p e h = rw e (record { pattern = p; is_fixed = refl; value_is = h })

    pub reading_stands : (top channel : ℕ) (shift : ℤ) → x ≡ Reading channel shift
        → Stands w row code x (record { source = Lane (channel * w + (row + code - 4)); top = top })
    unfolding Stands
    reading_stands top channel shift e = rw e refl
