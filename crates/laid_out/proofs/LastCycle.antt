-- Whether passes can be laid out: a reading is a straight line in the pass, so that the rows that come last decide. Assumes nothing.
use Prim.Native.Nat.{ℕ, ◌+◌, ◌*◌, ◌-◌, ◌≤◌, ◌<◌}
use native.Mathlib.Nat.{mul-le-mul, mul-le-mul_right}
use native.Mathlib.Decide.{dec_lt}
use native.Mathlib.Omega.{arith}
use mathlib.Core.Path.{◌≡◌, refl, sym, ap, ap₂, ◌∙◌, subst, subst⁻¹}
use mathlib.Core.Bool.{Bool, true, false, not, ◌&&◌, true≢false}
use mathlib.Core.List.{List}
use mathlib.Core.Logic.{◌↔◌, by_cases}
use lib.IntN.{ℤ, pos, sub_ℕ, ◌+ℤ◌, ◌*ℤ◌}
use borrow.Author.Tests.{lt-leb, not-false}
use Rattle.fields.specs.TwosComplement.{signed_fits}
use Rattle.fields.specs.inner.Ranges.{Bytes, SignedFits}
use Rattle.fields.proofs.Differences.{by_sub, sub_pos, sub_neg, sub_line}
use Rattle.fields.proofs.Patterns.{fits_found, found_fits}
use Rattle.plan.specs.Layout.{channels, start_rows, cycle_rows, rows, reading_of, drift_of}
use Rattle.plan.specs.Positions.{row_of, pass_of}
use Rattle.plan.specs.Run.{reading_on, reading_at}
use Rattle.plan.specs.Layout.{any_below}
use Rattle.plan.specs.inner.Sizes.{Fitting}
use Rattle.plan.specs.declared.sizes.Sizes.{Sizes}
use Rattle.plan.proofs.Rows.{row_again, pass_again, row_ge, row_lt, pass_lt}
use Rattle.plan.proofs.Lines.{reading_on_pass_0}
use Rattle.plan.proofs.Searches.{none_below, none_each}
use Rattle.laid_out.specs.LaidOut.{start_after, rows_after, too_large, can_be_laid}
use Rattle.laid_out.specs.inner.LastCycle.{number_too_large, row_too_large, cycle_too_large}
use Rattle.laid_out.proofs.CanBeLaid.{passes_few, can_be, laid_fits, row_reading_fits}

-- ---- a straight line between two numbers of 32 bits

sub_fits : (a b : ℕ) → SignedFits 4 (sub_ℕ a b) ↔ ((b ≤ a + 2147483648) × (a < b + 2147483648))
unfolding SignedFits
sub_fits a b =
    by_cases (dec_lt a b)
    (λ l. rw (sub_neg a b l) (λ h. (omega arith, omega arith), λ p. let q = p.0 in omega arith))
    (λ l. rw (sub_pos a b (omega arith)) (λ h. (omega arith, omega arith), λ p. let q = p.1 in omega arith))

between_fits : (z d : ℤ) (p n : ℕ) → p ≤ n → SignedFits 4 z → SignedFits 4 (z +ℤ pos n *ℤ d) → SignedFits 4 (z +ℤ pos p *ℤ d)
between_fits z d p n l =
    by_sub (λ (z : ℤ). SignedFits 4 z → SignedFits 4 (z +ℤ pos n *ℤ d) → SignedFits 4 (z +ℤ pos p *ℤ d)) (λ a b.
    by_sub (λ (d : ℤ). SignedFits 4 (sub_ℕ a b) → SignedFits 4 (sub_ℕ a b +ℤ pos n *ℤ d) → SignedFits 4 (sub_ℕ a b +ℤ pos p *ℤ d)) (λ c e. straight a b c e) d) z
  where
    straight : (a b c e : ℕ) → SignedFits 4 (sub_ℕ a b) → SignedFits 4 (sub_ℕ a b +ℤ pos n *ℤ sub_ℕ c e) → SignedFits 4 (sub_ℕ a b +ℤ pos p *ℤ sub_ℕ c e)
    straight a b c e f g =
        let first = (sub_fits a b).0 f in
        let last = (sub_fits (a + n * c) (b + n * e)).0 (subst (SignedFits 4) (sub_line a b c e n) g) in
        let f0 = first.0 in
        let f1 = first.1 in
        let l0 = last.0 in
        let l1 = last.1 in
        subst⁻¹ (SignedFits 4) (sub_line a b c e p)
        ((sub_fits (a + p * c) (b + p * e)).1
        (by_cases (dec_lt c e)
        (λ t. let up : c + (e - c) ≡ e = omega arith in
        let pe : p * (c + (e - c)) ≡ p * e = ap (λ (x : ℕ). p * x) up in
        let ne : n * (c + (e - c)) ≡ n * e = ap (λ (x : ℕ). n * x) up in
        let less : p * (e - c) ≤ n * (e - c) = mul-le-mul_right (e - c) l in
        (omega arith, omega arith))
        (λ t. let up : e + (c - e) ≡ c = omega arith in
        let pc : p * (e + (c - e)) ≡ p * c = ap (λ (x : ℕ). p * x) up in
        let nc : n * (e + (c - e)) ≡ n * c = ap (λ (x : ℕ). n * x) up in
        let less : p * (c - e) ≤ n * (c - e) = mul-le-mul_right (c - e) l in
        (omega arith, omega arith))))

-- What is found of one channel.
pub number_seen : (plan : List ℕ) (row pass channel : ℕ) {x : ℤ} (r : Bool) → x ≡ reading_on plan channel row pass → r ≡ signed_fits 4 x → not r ≡ number_too_large plan row pass channel
unfolding number_too_large
number_seen plan row pass channel r e g = ap not (g ∙ ap (signed_fits 4) e)

-- ---- so many passes

module _ {plan : List ℕ} {z : Sizes} (fits : Fitting plan z) where
  module _ (n : ℕ) where
    a_cycle : 1 ≤ cycle_rows plan
    a_cycle = omega (arith, fits.c_is, fits.a_cycle)

    pub few_passes : can_be_laid plan n ≡ true → n < 256
    few_passes can = passes_few plan n a_cycle can

    -- the product that is computed of them is small
    pub few_more : n ≤ 256 → (n + 1) * z.cycle ≤ 65792
    few_more h = let l : n + 1 ≤ 257 = omega arith in let g : z.cycle ≤ 256 = omega (arith, fits.few_rows) in mul-le-mul l g

    rows_are_after : rows_after plan n ≡ z.start + (n + 1) * z.cycle
    unfolding rows_after start_after
    rows_are_after = rw (fits.p_is, fits.c_is) (omega arith)

    later_reading : (j channel : ℕ) → j < cycle_rows plan → reading_at plan channel (start_rows plan + j + n * cycle_rows plan) ≡ reading_on plan channel (start_rows plan + j) n
    unfolding reading_at
    later_reading j channel l =
        ap₂ (reading_on plan channel)
        (row_again (start_rows plan) (cycle_rows plan) a_cycle (start_rows plan + j) n (omega arith) (omega arith))
        (pass_again (start_rows plan) (cycle_rows plan) a_cycle (start_rows plan + j) n (omega arith) (omega arith))

    -- There are too many rows,
    pub too_many : 256 < z.start + (n + 1) * z.cycle → false ≡ can_be_laid plan n
    unfolding can_be_laid
    too_many h = sym (ap (λ (b : Bool). b && not (any_below (too_large plan) (rows_after plan n))) (lt-leb (rows_after plan n) 256 (omega (arith, rows_are_after))))

    -- or the readings of the last cycle decide: where they fit,
    module _ (bytes : Bytes plan) (few : z.start + (n + 1) * z.cycle ≤ 256) where
      module _ (none : cycle_too_large plan n ≡ false) where
        last_fits : (j channel : ℕ) → j < cycle_rows plan → channel < channels plan → SignedFits 4 (reading_on plan channel (start_rows plan + j) n)
        unfolding cycle_too_large row_too_large number_too_large
        last_fits j channel l q =
            found_fits 4 (reading_on plan channel (start_rows plan + j) n)
            (not-false (signed_fits 4 (reading_on plan channel (start_rows plan + j) n))
            (none_each (λ i. not (signed_fits 4 (reading_on plan i (start_rows plan + j) n))) (channels plan)
            (none_each (λ i. any_below (λ k. not (signed_fits 4 (reading_on plan k (start_rows plan + i) n))) (channels plan)) (cycle_rows plan) none j l) channel q))

        cycle_fits_between : (j channel p : ℕ) → j < cycle_rows plan → channel < channels plan → p ≤ n → SignedFits 4 (reading_on plan channel (start_rows plan + j) p)
        unfolding reading_on
        cycle_fits_between j channel p l q h =
            between_fits (reading_of plan (start_rows plan + j) channel) (drift_of plan (start_rows plan + j) channel) p n h (row_reading_fits plan bytes (start_rows plan + j) channel)
            (last_fits j channel l q)

        all_between : (t channel : ℕ) → t < rows_after plan n → channel < channels plan → SignedFits 4 (reading_at plan channel t)
        unfolding reading_at rows_after start_after rows
        all_between t channel l q =
            by_cases (dec_lt t (start_rows plan + cycle_rows plan))
            (λ s. subst⁻¹ (SignedFits 4) (reading_on_pass_0 plan channel t s) (row_reading_fits plan bytes t channel))
            (λ s.
            let low = row_ge (start_rows plan) (cycle_rows plan) t (omega arith) in
            let high = row_lt (start_rows plan) (cycle_rows plan) a_cycle t in
            let pass = pass_lt (start_rows plan) (cycle_rows plan) a_cycle t (n + 1) (omega arith) (omega arith) in
            let row : start_rows plan + (row_of (start_rows plan) (cycle_rows plan) t - start_rows plan) ≡ row_of (start_rows plan) (cycle_rows plan) t = omega arith in
            subst (λ (r : ℕ). SignedFits 4 (reading_on plan channel r (pass_of (start_rows plan) (cycle_rows plan) t))) row
            (cycle_fits_between (row_of (start_rows plan) (cycle_rows plan) t - start_rows plan) channel (pass_of (start_rows plan) (cycle_rows plan) t) (omega arith) q (omega arith)))

        none_can : can_be_laid plan n ≡ true
        none_can = can_be plan n (omega (arith, rows_are_after)) all_between

      -- and where they do not.
      can_none : can_be_laid plan n ≡ true → cycle_too_large plan n ≡ false
      unfolding cycle_too_large row_too_large number_too_large
      can_none can =
          none_below _ (cycle_rows plan) (λ j l. none_below _ (channels plan) (λ channel q. ap not (fits_found 4 (reading_on plan channel (start_rows plan + j) n)
          (subst (SignedFits 4) (later_reading j channel l) (laid_fits plan n can (start_rows plan + j + n * cycle_rows plan) channel (last_row j l) q)))))
        where
          last_row : (j : ℕ) → j < cycle_rows plan → start_rows plan + j + n * cycle_rows plan < rows_after plan n
          last_row j l = let e = rows_are_after in let p = fits.p_is in let c = fits.c_is in
              let same : n * cycle_rows plan ≡ n * z.cycle = ap (λ (m : ℕ). n * m) c in omega arith

      pub cycle_decides : {r : Bool} → r ≡ cycle_too_large plan n → not r ≡ can_be_laid plan n
      cycle_decides {r} e = go r (can_be_laid plan n) (λ h. none_can (sym e ∙ h)) (λ h. e ∙ can_none h)
        where
          go : (r b : Bool) → (r ≡ false → b ≡ true) → (b ≡ true → r ≡ false) → not r ≡ b
          go true true f g = absurd (true≢false (g refl))
          go true false f g = refl
          go false true f g = refl
          go false false f g = sym (f refl)
