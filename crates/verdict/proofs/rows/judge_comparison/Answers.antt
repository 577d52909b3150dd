-- `verdict::rows::judge_comparison` meets its contract. Assumes nothing.
use mathlib.Core.Path.{refl, ◌∙◌}
use Rattle.verdict.proofs.Values.{on_cycle_row, on_start_row}
use Rattle.verdict.proofs.rows.judge_comparison.Goals as goal

pub returns-then-plan-row : goal.returns-then-plan-row
returns-then-plan-row c = c.judge_cycle.ensures ∙ on_cycle_row c.args.plan.now.fits _ _ c.if-plan-row.true

pub returns : goal.returns
returns c = c.always.ensures ∙ on_start_row c.args.plan.now.fits _ _ c.if-plan-row.false _ _ c.test_at.ensures refl
