-- The invariants of `acceptance::check_parts`.
use Prim.Native.Nat.{◌-◌}
use mathlib.Core.Path.{◌≡◌}
use Rattle.refusal.specs.First.{in_turn_from, in_turn}
use Rattle.refusal.specs.Outcome.{unrefused}
use Rattle.plan.specs.inner.Sizes.{all_rows}
use Rattle.table.specs.Layout.{marked}
use Rattle.marks.specs.Parts.{equation_outcome}
use Rattle.acceptance.proofs.PartsInTurn.{turn, rows_from}
use Rattle.acceptance.proofs.check_parts.Given as goal

abbrev pub invariant-loop-row : goal.invariant-loop-row
invariant-loop-row l = (l.answer ≡ unrefused) × (equation_outcome l.inputs.plan.bytes.now (marked (all_rows l.inputs.plan.sizes) l.table) l.view l.i ≡ rows_from l.inputs.plan.bytes.now l.table (all_rows l.inputs.plan.sizes) l.view l.i l.row-end l.row)

abbrev pub invariant-parts : goal.invariant-parts
invariant-parts l = (l.answer ≡ unrefused) × (in_turn (turn l.inputs.rule.now l.inputs.plan.bytes.now l.table l.inputs.parts (all_rows l.inputs.plan.sizes)) l.inputs.parts ≡ in_turn_from (turn l.inputs.rule.now l.inputs.plan.bytes.now l.table l.inputs.parts (all_rows l.inputs.plan.sizes)) l.i (l.inputs.parts - l.i))
