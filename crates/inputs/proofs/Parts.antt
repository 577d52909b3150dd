-- What is known of the parts and rows of a rule and a plan that clear refusals 1 to 6: how many, and how they are taken one after
-- another. Assumes nothing.
use Rattle.std.specs.Prelude.{Result, Ok, Err}
use Prim.Native.Nat.{ℕ, ◌-◌, ◌≤◌, ◌<◌}
use native.Mathlib.Omega.{arith}
use mathlib.Core.Path.{◌≡◌, sym, ◌∙◌, subst}
use mathlib.Core.List.{List}
use mathlib.Core.Bool.{true}
use Rattle.cltlb.specs.Views.{view_of}
use Rattle.cltlb.specs.Fits.{view_fits}
use Rattle.cltlb.specs.declared.Part.{Part}
use Rattle.cltlb.specs.declared.View.{View}
use Rattle.refusal.specs.declared.Refusal.{Refusal}
use Rattle.rule.specs.Layout.{channel_count}
use Rattle.rule.specs.Take.{take_of, views_of}
use Rattle.rule.proofs.OnSheet.{taken_view, taken_fits, untaken_absent}
use Rattle.rule.proofs.Cleared.{cleared_counts, cleared_fits}
use Rattle.plan.specs.declared.sizes.Sizes.{Sizes}
use Rattle.plan.specs.inner.Sizes.{all_rows}
use Rattle.inputs.specs.inner.Read.{Ready}

module _ (rule plan : List ℕ) {n : ℕ} {z : Sizes} (ready : Ready rule plan n z) where
  -- They are few,
  pub few_there : (n ≤ 64) × (all_rows z ≤ 256)
  few_there = (omega (arith, (cleared_counts rule ready.sheet).1, ready.parts), ready.fits.few_rows)

  -- the whole rule is a part, and row 0 a row.
  pub last_there : (1 ≤ n) × (n - 1 < n) × (0 < all_rows z)
  last_there =
      let k = (cleared_counts rule ready.sheet).0 in
      let m = ready.parts in
      let a = ready.fits.a_cycle in
      (omega arith, omega arith, omega arith)

  -- Every part fits.
  pub all_fit : (i : ℕ) → i < n → view_fits (channel_count rule) i (views_of rule i) ≡ true
  all_fit i low = cleared_fits rule ready.sheet i (omega (arith, ready.parts))

  module _ (i : ℕ) (low : i < n) {t : Result Part Refusal} (e : t ≡ take_of rule i) where
    -- A part below n is there to be taken,
    pub always_taken : {q : Refusal} → t ≡ Err q → ⊥
    always_taken f = let k = untaken_absent rule ready.sheet i e f in omega (arith, ready.parts)

    module _ {part : Part} (f : t ≡ Ok part) {p : View} (g : p ≡ view_of part) where
      -- it is the one that the definitions speak of,
      pub taken_same : views_of rule i ≡ p
      taken_same = taken_view rule ready.sheet i e f ∙ sym g

      -- and it fits the plan.
      pub taken_fitting : view_fits z.channels i p ≡ true
      taken_fitting =
          subst (λ (q : View). view_fits z.channels i q ≡ true) (sym g)
          (subst (λ (v : ℕ). view_fits v i (view_of part) ≡ true) (sym ready.channels) (taken_fits rule ready.sheet i e f))
