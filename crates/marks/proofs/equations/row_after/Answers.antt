use mathlib.Core.Path.{sym, ap, ◌∙◌}
use native.Mathlib.Omega.{arith}
use Rattle.plan.specs.Positions.{last, after}
use Rattle.plan.proofs.Rows.{after_last, after_other}
use Rattle.marks.proofs.equations.row_after.Goals as goal

pub returns-then-row-sizes : goal.returns-then-row-sizes
unfolding last
returns-then-row-sizes c = (sym (ap (after c.args.sizes.start c.args.sizes.cycle) c.if-row-sizes.true ∙ after_last c.args.sizes.start c.args.sizes.cycle), omega arith)

pub returns-else-row-sizes : goal.returns-else-row-sizes
returns-else-row-sizes c = (sym (after_other c.args.sizes.start c.args.sizes.cycle c.args.row (omega (arith, c.if-row-sizes.false))), omega (arith, c.if-row-sizes.false))
