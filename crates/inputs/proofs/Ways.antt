-- What is read of a rule and a plan, by the two answers that it is made of, and what is known after it. Assumes nothing.
use Rattle.rule.specs.inner.Sizes.{sizes}
use Rattle.std.specs.Prelude.{Ok, Err}
use Prim.Native.Nat.{ℕ}
use native.Mathlib.Omega.{arith}
use mathlib.Core.Path.{◌≡◌, refl, sym, ap, ap₂, ◌∙◌, subst}
use mathlib.Core.List.{List}
use Rattle.refusal.specs.Outcome.{Outcome, unrefused}
use Rattle.refusal.specs.declared.Refusal.{Refusal}
use Rattle.refusal.specs.First.{◌or_else◌}
use Rattle.refusal.proofs.First.{or_else_clear}
use Rattle.refusal.proofs.RefusesOnly.{Within, RefusesOnly, or_else_only, within_wider}
use Rattle.rule.specs.Layout.{part_count, channel_count}
use Rattle.rule.specs.Sheet.{sheet_outcome}
use Rattle.rule.specs.inner.Read.{sheet_read}
use Rattle.rule.proofs.OnSheet as on_sheet
use Rattle.rule.proofs.SheetNames.{sheet_within}
use Rattle.plan.specs.Refusals.{plan_outcome}
use Rattle.plan.specs.inner.Read.{plan_read}
use Rattle.plan.specs.declared.sizes.Sizes.{Sizes}
use Rattle.plan.specs.inner.Sizes.{sizes_in, Fitting}
use Rattle.plan.proofs.Fits.{sizes_are}
use Rattle.plan.proofs.Outcomes.{read_clear, read_refused, cleared}
use Rattle.plan.proofs.PlanNames.{plan_within}
use Rattle.inputs.specs.Outcome.{inputs_outcome}
use Rattle.inputs.specs.inner.Read.{read_of, inputs_read, Ready}

module _ (rule plan : List ℕ) where
  -- ---- one law for each way out

  pub sheet_refused : {r : Refusal} → sheet_read rule ≡ Err r → Err r ≡ inputs_read rule plan
  unfolding inputs_read read_of inputs_outcome ◌or_else◌
  sheet_refused e = simp (on_sheet.sheet_refused rule e)

  module _ {n v : ℕ} (e : sheet_read rule ≡ Ok (sizes n v)) where
    pub plan_refused : {r : Refusal} → plan_read v plan ≡ Err r → Err r ≡ inputs_read rule plan
    unfolding inputs_read read_of inputs_outcome ◌or_else◌
    plan_refused {r} f =
        let s = on_sheet.sheet_counts rule e in
        let q = subst (λ (u : ℕ). plan_outcome u plan ≡ Err r) s.2 (read_refused v plan r f) in
        simp (s.0, q)

    pub both_fit : {z : Sizes} → plan_read v plan ≡ Ok z → Ok (n, z) ≡ inputs_read rule plan
    unfolding inputs_read read_of inputs_outcome ◌or_else◌
    both_fit {z} f =
        let s = on_sheet.sheet_counts rule e in
        let p = read_clear v plan z f in
        let q = subst (λ (u : ℕ). plan_outcome u plan ≡ unrefused) s.2 p.0 in
        ap₂ (λ n z. Ok (n, z)) s.1 (sym (sizes_are p.1)) ∙ simp (s.0, q)

  -- ---- what is known after it

  by_refusal : (o : Outcome) {r : Refusal} → read_of rule plan o ≡ Err r → o ≡ Err r
  unfolding read_of
  by_refusal (Ok _) e = absurd (let z : ◌≡◌ {A = ℕ} 0 1 = cc in omega arith)
  by_refusal (Err q) e = cc

  by_fit : (o : Outcome) {n : ℕ} {z : Sizes} → read_of rule plan o ≡ Ok (n, z) → (o ≡ unrefused) × (n ≡ part_count rule) × (sizes_in plan ≡ z)
  unfolding read_of
  by_fit (Ok _) {n} {z} e =
      let q : ◌≡◌ {A = ℕ × Sizes} (part_count rule, sizes_in plan) (n, z) = cc in (refl, sym (ap (λ (p : ℕ × Sizes). p.0) q), ap (λ (p : ℕ × Sizes). p.1) q)
  by_fit (Err q) e = absurd (let z : ◌≡◌ {A = ℕ} 0 1 = cc in omega arith)

  pub refused : {r : Refusal} → inputs_read rule plan ≡ Err r → inputs_outcome rule plan ≡ Err r
  unfolding inputs_read
  refused e = by_refusal (inputs_outcome rule plan) e

  -- Where 1 to 6 refuse nothing, neither rule nor plan is refused.
  pub clear_both : inputs_outcome rule plan ≡ unrefused → (sheet_outcome rule ≡ unrefused) × (plan_outcome (channel_count rule) plan ≡ unrefused)
  unfolding inputs_outcome
  clear_both e = (or_else_clear (sheet_outcome rule) (plan_outcome (channel_count rule) plan)).0 e

  pub ready : {n : ℕ} {z : Sizes} → inputs_read rule plan ≡ Ok (n, z) → (inputs_outcome rule plan ≡ unrefused) × Ready rule plan n z
  unfolding inputs_read
  ready {n} {z} e =
      let f = by_fit (inputs_outcome rule plan) e in
      let b = clear_both f.0 in
      let c = cleared (channel_count rule) plan b.1 in
      let fits : Fitting plan z = subst (Fitting plan) f.2 c.0 in (
        f.0,
        record { sheet = b.0; plan_clear = b.1; parts = f.1; channels = sym fits.v_is ∙ c.1; fits = fits },
      )

  -- Their refusals are 1 to 6, and two bytes hold the part and the row that one names.
  pub inputs_within : RefusesOnly (Within 1 6) (inputs_outcome rule plan)
  unfolding inputs_outcome
  inputs_within =
      or_else_only (Within 1 6) (sheet_outcome rule) (plan_outcome (channel_count rule) plan)
      (within_wider 1 3 1 6 (omega arith) (omega arith) (sheet_outcome rule) (sheet_within rule))
      (λ _. within_wider 4 6 1 6 (omega arith) (omega arith) (plan_outcome (channel_count rule) plan) (plan_within (channel_count rule) plan))

  -- The other way round.
  pub both_clear : sheet_outcome rule ≡ unrefused → plan_outcome (channel_count rule) plan ≡ unrefused → inputs_outcome rule plan ≡ unrefused
  unfolding inputs_outcome
  both_clear s p = (or_else_clear (sheet_outcome rule) (plan_outcome (channel_count rule) plan)).1 (s, p)

  pub both_ready : {n : ℕ} {z : Sizes} → Ready rule plan n z → inputs_outcome rule plan ≡ unrefused
  both_ready r = both_clear r.sheet r.plan_clear

  -- What was read of both is ready.
  pub read_ready : {n v : ℕ} → sheet_read rule ≡ Ok (sizes n v) → {z : Sizes} → plan_read v plan ≡ Ok z → Ready rule plan n z
  read_ready e f = (ready (sym (both_fit e f))).1
