-- How long the mark table of a rule and a plan is. Assumes nothing.
use Rattle.std.specs.Prelude.{Ok, Err}
use Rattle.refusal.specs.Outcome.{unrefused}
use Prim.Native.Nat.{ℕ, ◌+◌, ◌*◌, ◌≤◌}
use native.Mathlib.Omega.{arith}
use mathlib.Core.Path.{◌≡◌, refl, sym, ◌∙◌}
use mathlib.Core.List.{List}
use Rattle.refusal.specs.declared.Refusal.{Refusal}
use Rattle.refusal.proofs.First.{clear_refused}
use Rattle.rule.specs.Layout.{part_count}
use Rattle.plan.specs.Layout.{rows}
use Rattle.plan.specs.inner.Sizes.{all_rows}
use Rattle.plan.specs.declared.sizes.Sizes.{Sizes}
use Rattle.plan.proofs.Fits.{rows_are}
use Rattle.table.proofs.Places.{area}
use Rattle.inputs.specs.Outcome.{inputs_outcome}
use Rattle.inputs.specs.inner.Read.{inputs_read}
use Rattle.inputs.proofs.Ways.{ready, refused}
use Rattle.inputs.proofs.Parts.{few_there}

module _ (rule plan : List ℕ) where
  -- of a rule and a plan that clear 1 to 6, and of others
  abbrev pub IsLength : ℕ → Type 0
  IsLength r =
      (r ≤ 16516)
      × (inputs_outcome rule plan ≡ unrefused → r ≡ 4 + part_count rule * rows plan + 2 * part_count rule)
      × (¬ (inputs_outcome rule plan ≡ unrefused) → r ≡ 0)

  module _ {n : ℕ} {z : Sizes} (e : inputs_read rule plan ≡ Ok (n, z)) where
    -- There are few parts, rows and marks,
    pub few_marks : (n ≤ 64) × (all_rows z ≤ 256) × (n * all_rows z ≤ 16384)
    few_marks = let few = few_there rule plan (ready rule plan e).1 in (few.0, few.1, area _ _ few.0 few.1)

    -- so that the table is short.
    pub length_read : IsLength (4 + n * all_rows z + 2 * n)
    length_read =
        let there = (ready rule plan e).1 in
        (omega (arith, few_marks.0, few_marks.2), (λ _. rw (rows_are there.fits, ← there.parts) refl), λ not_clear. absurd (not_clear (ready rule plan e).0))

  -- Where they do not, none is asked for.
  pub length_refused : {r : Refusal} → inputs_read rule plan ≡ Err r → IsLength 0
  length_refused e = (omega arith, (λ clear. absurd (clear_refused (sym (refused rule plan e) ∙ clear))), λ _. refl)
