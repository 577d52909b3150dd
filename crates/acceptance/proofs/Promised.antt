-- The definition of the check keeps its promise: demand 3 over the bytes. Assumes nothing.
use Rattle.std.specs.Prelude.{Result, Ok, Err}
use Prim.Native.Nat.{ℕ, ◌-◌, ◌≤◌}
use native.Mathlib.Omega.{arith}
use mathlib.Core.Path.{◌≡◌, refl, sym, ◌∙◌, subst}
use mathlib.Core.List.{List}
use mathlib.Core.Bool.{Bool}
use mathlib.Core.Logic.{◌↔◌}
use lib.Dec.{T}
use Rattle.refusal.specs.Outcome.{Outcome, unrefused}
use Rattle.refusal.specs.declared.Refusal.{Refusal}
use Rattle.refusal.specs.declared.Refusal.TheVariants.{Equation, Closing, Witness}
use Rattle.refusal.specs.Report.{report_of}
use Rattle.refusal.specs.First.{◌or_else◌}
use Rattle.refusal.proofs.First.{or_else_clear}
use Rattle.rule.specs.Layout.{part_count, channel_count}
use Rattle.rule.specs.Take.{views_of}
use Rattle.rule.proofs.Cleared.{cleared_counts, cleared_fits}
use Rattle.plan.specs.Layout.{cycle_rows, rows}
use Rattle.plan.proofs.Outcomes.{cleared}
use Rattle.inputs.specs.Outcome.{inputs_outcome}
use Rattle.inputs.proofs.Ways.{clear_both, both_clear}
use Rattle.table.specs.Layout.{table_outcome}
use Rattle.marks.proofs.Accepted.{accepted_means, true_accepted, accepted_verdict}
use Rattle.marks.proofs.RefusalMeans.{Means}
use Rattle.marks.proofs.RefusedMeans.{refused_means}
use Rattle.acceptance.specs.Check.{mark_of, witness_at, parts_outcome, check_outcome, answered, check_of}
use Rattle.acceptance.specs.Promise.{Cleared, RuleTruth, TableRight, EquationMeans, ClosingMeans, WitnessMeans, CheckPromise}
use Rattle.acceptance.proofs.CheckNames.{parts_refused, refused_outcome}

module _ (rule plan table : List ℕ) where
  -- accepted exactly where no test refuses
  pub accepted_clear : (o : Outcome) (v : Bool) → answered rule plan table o ≡ Ok v → (o ≡ unrefused) × (mark_of rule plan table (part_count rule - 1) 0 ≡ v)
  unfolding answered
  accepted_clear (Ok _) v e = (refl, cc)
  accepted_clear (Err r) v e = absurd (let z : ◌≡◌ {A = ℕ} 0 1 = cc in omega arith)

  pub clear_accepted : check_outcome rule plan table ≡ unrefused → check_of rule plan table ≡ Ok (mark_of rule plan table (part_count rule - 1) 0)
  unfolding check_of answered
  clear_accepted e = simp e

  -- the three groups of tests
  pub all_clear : check_outcome rule plan table ≡ unrefused → Cleared rule plan table × (parts_outcome rule plan table ≡ unrefused)
  unfolding check_outcome
  all_clear e =
      let a = (or_else_clear (inputs_outcome rule plan) (table_outcome (part_count rule) (rows plan) table or_else parts_outcome rule plan table)).0 e in
      let b = clear_both rule plan a.0 in
      let c = (or_else_clear (table_outcome (part_count rule) (rows plan) table) (parts_outcome rule plan table)).0 a.1 in
      (record { sheet = b.0; plan_clear = b.1; table_clear = c.0 }, c.1)

  pub clear_all : Cleared rule plan table → parts_outcome rule plan table ≡ unrefused → check_outcome rule plan table ≡ unrefused
  unfolding check_outcome
  clear_all c e =
      (or_else_clear (inputs_outcome rule plan) (table_outcome (part_count rule) (rows plan) table or_else parts_outcome rule plan table)).1 (
        both_clear rule plan c.sheet c.plan_clear,
        (or_else_clear (table_outcome (part_count rule) (rows plan) table) (parts_outcome rule plan table)).1 (c.table_clear, e),
      )

  module _ (c : Cleared rule plan table) where
    some_cycle : 1 ≤ cycle_rows plan
    some_cycle = let f = (cleared (channel_count rule) plan c.plan_clear).0 in f.a_cycle

    -- 9 to 11 refuse nothing exactly where the table is right
    parts_right : (parts_outcome rule plan table ≡ unrefused) ↔ TableRight rule plan table
    unfolding parts_outcome
    parts_right = (
      λ e.
          let m = accepted_means plan some_cycle (views_of rule) (channel_count rule) (part_count rule) (cleared_fits rule c.sheet)
          (mark_of rule plan table) (witness_at rule plan table) e in
          record { settled = m.0; marks = m.1; witnesses = m.2 },
      λ r.
          true_accepted plan some_cycle (views_of rule) (channel_count rule) (part_count rule) (cleared_fits rule c.sheet)
          (mark_of rule plan table) (witness_at rule plan table) (r.settled, r.marks, r.witnesses),
    )

    verdict_true : parts_outcome rule plan table ≡ unrefused → T (mark_of rule plan table (part_count rule - 1) 0) ↔ RuleTruth rule plan (part_count rule - 1) 0
    unfolding parts_outcome RuleTruth
    verdict_true e =
        accepted_verdict plan some_cycle (views_of rule) (channel_count rule) (part_count rule) (cleared_fits rule c.sheet)
        (mark_of rule plan table) (witness_at rule plan table) (cleared_counts rule c.sheet).0 e

  -- what a refusal of a part says
  refused_says : (r : Refusal) → 9 ≤ (report_of r).number → check_outcome rule plan table ≡ Err r
      → Means plan (views_of rule) (part_count rule) (mark_of rule plan table) (witness_at rule plan table) r
  unfolding parts_outcome
  refused_says r high e =
      let p = parts_refused rule plan table r high e in
      let q = clear_both rule plan p.0 in
      refused_means plan (cleared (channel_count rule) plan q.1).0.a_cycle (views_of rule) (channel_count rule) (part_count rule) (cleared_fits rule q.0)
      (mark_of rule plan table) (witness_at rule plan table) r p.2

  -- THE CHECK KEEPS ITS PROMISE, whatever the bytes.
  pub check_promise : {answer : Result Bool Refusal} → answer ≡ check_of rule plan table → CheckPromise rule plan table answer
  unfolding check_of Means EquationMeans ClosingMeans WitnessMeans
  check_promise {answer} e = record {
    is_check = e;
    accepts = λ c. (
      λ p. (parts_right c).0 (all_clear (accepted_clear (check_outcome rule plan table) p.0 (sym e ∙ p.1)).0).1,
      λ r. (mark_of rule plan table (part_count rule - 1) 0, e ∙ clear_accepted (clear_all c ((parts_right c).1 r))),
    );
    verdict = λ v q.
        let a = accepted_clear (check_outcome rule plan table) v (sym e ∙ q) in
        let b = all_clear a.0 in
        subst (λ (x : Bool). T x ↔ RuleTruth rule plan (part_count rule - 1) 0) a.1 (verdict_true b.0 b.1);
    equation = λ i row q. refused_says (Equation i row) (omega arith) (refused_outcome rule plan table (check_outcome rule plan table) (Equation i row) (sym e ∙ q));
    closing = λ i row q. refused_says (Closing i row) (omega arith) (refused_outcome rule plan table (check_outcome rule plan table) (Closing i row) (sym e ∙ q));
    witness = λ i q. refused_says (Witness i) (omega arith) (refused_outcome rule plan table (check_outcome rule plan table) (Witness i) (sym e ∙ q));
  }
