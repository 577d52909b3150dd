-- What the whole check promises, on all inputs. Assumes nothing.
use Rattle.std.specs.Prelude.{Result, Ok, Err, ℕ, ◌-◌, ◌≡◌, List, Bool, ◌↔◌, T}
use Rattle.refusal.specs.declared.Refusal.{Refusal}
use Rattle.refusal.specs.Outcome.{unrefused}
use Rattle.refusal.specs.declared.Refusal.TheVariants.{Equation, Closing, Witness}
use Rattle.rule.specs.Layout.{part_count, channel_count}
use Rattle.rule.specs.Take.{views_of}
use Rattle.rule.specs.Sheet.{sheet_outcome}
use Rattle.plan.specs.Layout.{rows}
use Rattle.plan.specs.Refusals.{plan_outcome}
use Rattle.table.specs.Layout.{table_outcome}
use Rattle.marks.specs.Meaning.{Truth, Settled, MarksTrue, WitnessesInOrder}
use Rattle.marks.specs.RefusalMeaning as refusal
use Rattle.acceptance.specs.Check.{mark_of, witness_at, check_of}

-- The published truth of part i of the rule at position t of the plan's run.
unfoldable pub RuleTruth : List ℕ → List ℕ → ℕ → ℕ → Type 0
RuleTruth rule plan i t = Truth (views_of rule) plan i t

module _ (rule plan table : List ℕ) where
  -- The three byte strings clear refusals 1 to 8.
  pub record Cleared : Type 0 where
    pub sheet : sheet_outcome rule ≡ unrefused
    pub plan_clear : plan_outcome (channel_count rule) plan ≡ unrefused
    pub table_clear : table_outcome (part_count rule) (rows plan) table ≡ unrefused

  -- Every part has, on each cycle row, the same published truth on all passes, without end; every mark is the published
  -- truth of its part at the first position of its row; every witness is in order.
  pub record TableRight : Type 0 where
    pub settled : Settled (views_of rule) (part_count rule) plan
    pub marks : MarksTrue (views_of rule) (part_count rule) plan (mark_of rule plan table)
    pub witnesses : WitnessesInOrder (views_of rule) (part_count rule) plan (mark_of rule plan table) (witness_at rule plan table)

  -- What refusals 9, 10 and 11 say of the published truth: every lower part is right; on 10 the truth of part i is not the same on
  -- all passes of the row, which is of an atom the lowest such row and of an operator row P; on 9 and on 11 it is settled, and on 9 its
  -- marks are not all true, on 11 its witness is not in order, and some number would be exactly where its marks are true.
  unfoldable pub EquationMeans : ℕ → ℕ → Type 0
  EquationMeans i row = refusal.EquationMeans (views_of rule) (part_count rule) plan (mark_of rule plan table) (witness_at rule plan table) i row

  unfoldable pub ClosingMeans : ℕ → ℕ → Type 0
  ClosingMeans i row = refusal.ClosingMeans (views_of rule) (part_count rule) plan (mark_of rule plan table) (witness_at rule plan table) i row

  unfoldable pub WitnessMeans : ℕ → Type 0
  WitnessMeans i = refusal.WitnessMeans (views_of rule) (part_count rule) plan (mark_of rule plan table) (witness_at rule plan table) i

  pub record CheckPromise (answer : Result Bool Refusal) : Type 0 where
    -- the answer is the first refusal that applies, or the acceptance
    pub is_check : answer ≡ check_of rule plan table
    -- it accepts exactly the right tables
    pub accepts : Cleared → ((v : Bool) × (answer ≡ Ok v)) ↔ TableRight
    -- its verdict is the published truth of the whole rule at position 0
    pub verdict : (v : Bool) → answer ≡ Ok v → T v ↔ RuleTruth rule plan (part_count rule - 1) 0
    -- what a refusal of part i says
    pub equation : (i row : ℕ) → answer ≡ Err (Equation i row) → EquationMeans i row
    pub closing : (i row : ℕ) → answer ≡ Err (Closing i row) → ClosingMeans i row
    pub witness : (i : ℕ) → answer ≡ Err (Witness i) → WitnessMeans i
