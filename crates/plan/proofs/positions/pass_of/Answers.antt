-- `plan::positions::pass_of` meets its contract. Assumes nothing.
use native.Mathlib.Omega.{arith}
use mathlib.Core.Path.{sym}
use Rattle.plan.proofs.Rows.{pass_start, pass_cycle}
use Rattle.plan.proofs.positions.pass_of.Goals as goal

pub returns-then-t-sizes : goal.returns-then-t-sizes
returns-then-t-sizes c = sym (pass_start c.args.sizes.start c.args.sizes.cycle c.args.t c.if-t-sizes.true)

pub returns-else-t-sizes : goal.returns-else-t-sizes
returns-else-t-sizes c = sym (pass_cycle c.args.sizes.start c.args.sizes.cycle c.args.t (omega arith))
