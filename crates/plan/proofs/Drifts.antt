-- Rows that have a drift other than 0, looked for channel by channel, and rows that have none, found at once. Assumes nothing.
use Prim.Native.Nat.{ℕ, ◌+◌, ◌*◌, ◌-◌, ◌≤◌, ◌<◌}
use native.Mathlib.Nat.{mul-le-mul_right}
use native.Mathlib.Decide.{dec_lt, ℕ_discrete}
use native.Mathlib.Numerals.{add-one}
use native.Mathlib.Omega.{arith}
use mathlib.Core.Path.{◌≡◌, refl, sym, ap, ◌∙◌}
use mathlib.Core.Bool.{Bool, true, false, ◌&&◌, ◌||◌, not, false≢true}
use mathlib.Core.List.{List}
use mathlib.Core.Logic.{by_cases}
use lib.Dec.{eqb}
use lib.ListN.{length}
use lib.IntN.{ℤ, pos, negsuc}
use borrow.Author.Tests.{eq-eqb, ne_eqb, eqb-true, not-false}
use Rattle.fields.specs.LittleEndian.{number_at}
use Rattle.fields.specs.TwosComplement.{signed_of, signed_at}
use Rattle.fields.proofs.Differences.{sub_pos, sub_neg}
use Rattle.fields.proofs.Patterns.{signed_low}
use Rattle.plan.specs.Layout.{channels, array_length, cell, drifts, entry, any_below, stored_drift}
use Rattle.plan.specs.inner.Sizes.{all_stored, most_array, Fitting}
use Rattle.plan.specs.inner.Drifts.{non_zero, all_zero, StoredStill, Still}
use Rattle.plan.proofs.Arrays.{array_le}
use Rattle.plan.proofs.Fits.{few_stored}
use Rattle.plan.specs.declared.sizes.Sizes.{Sizes}
use Rattle.fields.specs.inner.Biased.{bias, unbiased}
use Rattle.plan.specs.Refusals.{is_zero, drifts_at, drifting}
use Rattle.plan.proofs.Searches.{none_below, one_here, none_each}

-- A field is 0 where it is kept as 2 ^ 31.
zero_field : (n : ℕ) {z : ℤ} → unbiased n ≡ z → n ≡ bias → is_zero z ≡ true
unfolding is_zero
zero_field n e h = ap is_zero (sym e ∙ sub_pos n bias (omega arith)) ∙ eq-eqb (n - bias) 0 (omega arith)

other_field : (n : ℕ) {z : ℤ} → unbiased n ≡ z → (n ≡ bias → ⊥) → is_zero z ≡ false
unfolding is_zero
other_field n e h =
    by_cases (dec_lt n bias)
    (λ l. ap is_zero (sym e ∙ sub_neg n bias l))
    (λ l. ap is_zero (sym e ∙ sub_pos n bias (omega arith)) ∙ ne_eqb (n - bias) 0 (λ g. h (omega arith)))

-- Whether the field of a drift is another than that of 0.
pub drift_seen : (plan : List ℕ) (k channel n : ℕ) → unbiased n ≡ stored_drift plan k channel → not (eqb n bias) ≡ drifts_at plan k channel
unfolding drifts_at
drift_seen plan k channel n e = by_cases (ℕ_discrete n bias) (λ h. ap not (eq-eqb n bias h ∙ sym (zero_field n e h))) (λ h. ap not (ne_eqb n bias h ∙ sym (other_field n e h)))

-- A row none of whose channels drifts.
pub row_quiet : (plan : List ℕ) (k : ℕ) → ((channel : ℕ) → channel < channels plan → stored_drift plan k channel ≡ pos 0) → drifting plan k ≡ false
unfolding drifting drifts_at is_zero
row_quiet plan k h = none_below (drifts_at plan k) (channels plan) (λ channel l. rw (h channel l) refl)

zero_is : (z : ℤ) → is_zero z ≡ true → z ≡ pos 0
unfolding is_zero
zero_is (pos n) e = ap pos (eqb-true n 0 e)
zero_is (negsuc n) e = absurd (false≢true e)

pub quiet_row : (plan : List ℕ) (k : ℕ) → drifting plan k ≡ false → (channel : ℕ) → channel < channels plan → stored_drift plan k channel ≡ pos 0
unfolding drifting drifts_at
quiet_row plan k e channel l =
    zero_is (stored_drift plan k channel) (not-false (is_zero (stored_drift plan k channel)) (none_each (drifts_at plan k) (channels plan) e channel l))

-- ---- many at once

-- one more that is 0
sweeps_on : (x b : Bool) → (not x && b) ≡ not (x || not b)
sweeps_on true b = refl
sweeps_on false true = refl
sweeps_on false false = refl

module _ (array : List ℕ) (from : ℕ) where
  pub zero_first : true ≡ all_zero array from 0
  unfolding all_zero any_below
  zero_first = refl

  pub zero_next : (k n : ℕ) {all : Bool} → all ≡ all_zero array from k → n ≡ number_at 4 array (4 * (from + k)) → (all && eqb n 0) ≡ all_zero array from (k + 1)
  unfolding all_zero any_below non_zero
  zero_next k n e g = rw (add-one, ← g) (ap (λ b. b && eqb n 0) e ∙ sweeps_on (any_below (non_zero array from) k) (eqb n 0))

  zero_each : (n : ℕ) → all_zero array from n ≡ true → (j : ℕ) → j < n → number_at 4 array (4 * (from + j)) ≡ 0
  unfolding all_zero non_zero
  zero_each n e j l = go (eqb (number_at 4 array (4 * (from + j))) 0) refl
    where
      go : (b : Bool) → eqb (number_at 4 array (4 * (from + j))) 0 ≡ b → number_at 4 array (4 * (from + j)) ≡ 0
      go true g = eqb-true _ _ g
      go false g = absurd (false≢true (sym (ap not (one_here (non_zero array from) j n l (ap not g))) ∙ e))

module _ {plan : List ℕ} {z : Sizes} (fits : Fitting plan z) where
  -- The numbers of the drifts on the stored rows from one up to another lie in their array,
  module _ (from to : ℕ) (h : from ≤ to) (l : to ≤ all_stored z) where
    together : from * z.channels + (to - from) * z.channels ≡ to * z.channels
    together = let back : from + (to - from) ≡ to = omega arith in omega (arith, ap (λ (r : ℕ). r * z.channels) back)

    pub few_numbers : from * z.channels + (to - from) * z.channels ≤ 2080
    few_numbers =
        let most = array_le z.channels to fits.few_channels (omega (arith, few_stored fits)) in
        omega (arith, together, most)

    pub numbers_there : (d : List ℕ) → length d ≡ array_length z.channels (all_stored z) → (4 * (from * z.channels + (to - from) * z.channels) ≤ length d) × (length d ≤ most_array)
    unfolding array_length
    numbers_there d e = let most = array_le z.channels (all_stored z) fits.few_channels (few_stored fits) in omega (arith, together, mul-le-mul_right z.channels l, most)

  -- and where they are 0, no channel drifts there.
  pub still_rows : {d : List ℕ} → d ≡ drifts plan → (from to : ℕ) → all_zero d (from * z.channels) ((to - from) * z.channels) ≡ true → StoredStill plan from to
  unfolding StoredStill stored_drift entry signed_at cell
  still_rows {d} same from to all row channel low high l =
      let there : channel < z.channels = rw (← fits.v_is) l in
      let near : row - from + 1 ≤ to - from = omega arith in
      let inside : (row - from) * z.channels + channel < (to - from) * z.channels = omega (arith, mul-le-mul_right z.channels near) in
      let back : from + (row - from) ≡ row = omega arith in
      let place : from * z.channels + ((row - from) * z.channels + channel) ≡ row * z.channels + channel =
      omega (arith, ap (λ (r : ℕ). r * z.channels) back) in
      rw (fits.v_is, ← place, ← same)
      (ap (signed_of 4) (zero_each d (from * z.channels) ((to - from) * z.channels) all ((row - from) * z.channels + channel) inside) ∙ zero_signed)
    where
      zero_signed : signed_of 4 0 ≡ pos 0
      zero_signed = sym (signed_low 4 0 (omega arith))

  pub still_behind : (from to : ℕ) → StoredStill plan (z.lead + from) (z.lead + to) → Still plan from to
  unfolding Still
  still_behind from to h = rw fits.l_is h
