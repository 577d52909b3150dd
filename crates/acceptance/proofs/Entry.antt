-- The check by the tests that it makes, one law for each way out. Assumes nothing.
use Rattle.std.specs.Prelude.{Ok, Err}
use Prim.Native.Nat.{ℕ, ◌-◌}
use mathlib.Core.Path.{◌≡◌, sym, ap, ap₂, ◌∙◌}
use mathlib.Core.List.{List}
use mathlib.Core.Bool.{Bool}
use Rattle.refusal.specs.Outcome.{Outcome, unrefused}
use Rattle.refusal.specs.declared.Refusal.{Refusal}
use Rattle.refusal.specs.First.{◌or_else◌}
use Rattle.rule.specs.Layout.{part_count}
use Rattle.plan.specs.Layout.{rows}
use Rattle.plan.specs.declared.sizes.Sizes.{Sizes}
use Rattle.plan.specs.inner.Sizes.{all_rows}
use Rattle.plan.proofs.Fits.{rows_are}
use Rattle.inputs.specs.Outcome.{inputs_outcome}
use Rattle.inputs.specs.inner.Read.{Ready}
use Rattle.inputs.proofs.Ways.{both_ready}
use Rattle.inputs.proofs.Parts.{few_there}
use Rattle.table.specs.Layout.{marked, table_outcome}
use Rattle.table.proofs.Refused.{cleared_marks}
use Rattle.marks.proofs.MarkNames.{cleared_sized}
use Rattle.acceptance.specs.Check.{mark_of, parts_outcome, check_outcome, answered, check_of}
use Rattle.acceptance.specs.inner.Parts.{Prepared}

module _ (rule plan table : List ℕ) where
  pub inputs_refused : {r : Refusal} → inputs_outcome rule plan ≡ Err r → Err r ≡ check_of rule plan table
  unfolding check_of answered check_outcome ◌or_else◌
  inputs_refused e = simp e

  module _ {n : ℕ} {z : Sizes} (ready : Ready rule plan n z) where
    own_table : table_outcome n (all_rows z) table ≡ table_outcome (part_count rule) (rows plan) table
    own_table = ap₂ (λ (n w : ℕ). table_outcome n w table) ready.parts (sym (rows_are ready.fits))

    pub table_refused : {t : Outcome} {r : Refusal} → t ≡ table_outcome n (all_rows z) table → t ≡ Err r → Err r ≡ check_of rule plan table
    unfolding check_of answered check_outcome ◌or_else◌
    table_refused d f = simp (both_ready rule plan ready, sym own_table ∙ sym d ∙ f)

    module _ {t : Outcome} (d : t ≡ table_outcome n (all_rows z) table) (c : t ≡ unrefused) where
      f : table_outcome n (all_rows z) table ≡ unrefused
      f = sym d ∙ c

      pub prepared : Prepared rule plan table n z
      prepared =
          let sized = cleared_sized n (all_rows z) table (few_there rule plan ready).0 (few_there rule plan ready).1 f in
          record { ready = ready; sized = sized; marks = cleared_marks n (all_rows z) table f sized }

      pub parts_refused : {o : Outcome} {r : Refusal} → o ≡ parts_outcome rule plan table → o ≡ Err r → Err r ≡ check_of rule plan table
      unfolding check_of answered check_outcome ◌or_else◌
      parts_refused e h = simp (both_ready rule plan ready, sym own_table ∙ f, sym e ∙ h)

      pub all_accepted : {o : Outcome} → o ≡ parts_outcome rule plan table → o ≡ unrefused → {b : Bool} → b ≡ marked (all_rows z) table (n - 1) 0
          → Ok b ≡ check_of rule plan table
      unfolding check_of answered check_outcome ◌or_else◌ mark_of
      all_accepted e h m =
          ap Ok (m ∙ ap₂ (λ (n w : ℕ). marked w table (n - 1) 0) ready.parts (sym (rows_are ready.fits)))
          ∙ simp (both_ready rule plan ready, sym own_table ∙ f, sym e ∙ h)
