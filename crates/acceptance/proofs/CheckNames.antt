-- The refusals of the check by their numbers, and that two bytes hold the part and the row that one names. Assumes nothing.
use Rattle.std.specs.Prelude.{Bool, Result, Ok, Err}
use Prim.Native.Nat.{ℕ, ◌≤◌}
use native.Mathlib.Omega.{arith}
use mathlib.Core.Path.{◌≡◌, sym, ◌∙◌}
use mathlib.Core.List.{List}
use Rattle.refusal.specs.declared.Refusal.{Refusal}
use Rattle.refusal.specs.Outcome.{Outcome, unrefused}
use Rattle.refusal.specs.Report.{report_of}
use Rattle.refusal.specs.First.{◌or_else◌}
use Rattle.refusal.proofs.RefusesOnly.{Small, Within, RefusesOnly, refused_only, or_else_only, in_turn_only, or_else_second, within_small}
use Rattle.rule.specs.Layout.{part_count, channel_count}
use Rattle.rule.specs.Take.{views_of}
use Rattle.rule.proofs.Cleared.{cleared_counts}
use Rattle.plan.specs.Layout.{rows}
use Rattle.plan.proofs.Outcomes.{cleared}
use Rattle.inputs.specs.Outcome.{inputs_outcome}
use Rattle.inputs.proofs.Ways.{clear_both, inputs_within}
use Rattle.table.specs.Layout.{table_outcome}
use Rattle.marks.specs.Parts.{part_outcome}
use Rattle.marks.proofs.MarkNames.{table_within, part_small}
use Rattle.acceptance.specs.Check.{mark_of, witness_at, parts_outcome, check_outcome, answered, check_of}

module _ (rule plan table : List ℕ) where
  -- what the first six leave: few rows and few parts
  module _ (e : inputs_outcome rule plan ≡ unrefused) where
    few_rows : rows plan ≤ 256
    unfolding rows
    few_rows = (cleared (channel_count rule) plan (clear_both rule plan e).1).0.few_rows

    few_parts : part_count rule ≤ 64
    few_parts = (cleared_counts rule (clear_both rule plan e).0).1

    own_table : RefusesOnly (Within 7 8) (table_outcome (part_count rule) (rows plan) table)
    own_table = table_within plan few_rows (part_count rule) few_parts table

  check_small : RefusesOnly Small (check_outcome rule plan table)
  unfolding check_outcome parts_outcome
  check_small =
      or_else_only Small (inputs_outcome rule plan) (table_outcome (part_count rule) (rows plan) table or_else parts_outcome rule plan table)
      (within_small 1 6 (inputs_outcome rule plan) (inputs_within rule plan))
      (λ e. or_else_only Small (table_outcome (part_count rule) (rows plan) table) (parts_outcome rule plan table)
      (within_small 7 8 (table_outcome (part_count rule) (rows plan) table) (own_table e))
      (λ _. in_turn_only Small (λ i. part_outcome plan (mark_of rule plan table) (views_of rule i) i (witness_at rule plan table i)) (part_count rule)
      (λ i h. part_small plan (few_rows e) (part_count rule) (few_parts e) (mark_of rule plan table) i h (views_of rule i) (witness_at rule plan table i))))

  -- A refusal numbered 9 or more is one of the parts, and 1 to 8 are cleared.
  pub parts_refused : (r : Refusal) → 9 ≤ (report_of r).number → check_outcome rule plan table ≡ Err r
      → (inputs_outcome rule plan ≡ unrefused) × (table_outcome (part_count rule) (rows plan) table ≡ unrefused) × (parts_outcome rule plan table ≡ Err r)
  unfolding check_outcome
  parts_refused r high e =
      let a = or_else_second (Within 1 6) (inputs_outcome rule plan) (table_outcome (part_count rule) (rows plan) table or_else parts_outcome rule plan table) r
      (inputs_within rule plan) (λ w. let l = w.1 in omega arith) e in
      let b = or_else_second (Within 7 8) (table_outcome (part_count rule) (rows plan) table) (parts_outcome rule plan table) r
      (own_table a.0) (λ w. let l = w.1 in omega arith) a.1 in
      (a.0, b.0, b.1)

  pub refused_outcome : (o : Outcome) (r : Refusal) → answered rule plan table o ≡ Err r → o ≡ Err r
  unfolding answered
  refused_outcome (Ok _) r e = absurd (let z : ◌≡◌ {A = ℕ} 0 1 = cc in omega arith)
  refused_outcome (Err q) r e = cc

  pub check_names : {answer : Result Bool Refusal} → answer ≡ check_of rule plan table → (r : Refusal) → answer ≡ Err r → Small r
  unfolding check_of
  check_names e r f = refused_only Small (check_outcome rule plan table) check_small r (refused_outcome (check_outcome rule plan table) r (sym e ∙ f))
