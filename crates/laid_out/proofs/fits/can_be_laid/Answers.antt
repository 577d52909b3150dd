-- `laid_out::fits::can_be_laid` meets its contract. Assumes nothing.
use Rattle.fields.proofs.ByteParts.{as_bytes}
use mathlib.Core.Path.{◌∙◌}
use borrow.Author.Tests.{lt-leb}
use native.Mathlib.Omega.{arith}
use Rattle.laid_out.proofs.LastCycle.{too_many, cycle_decides}
use Rattle.laid_out.proofs.fits.can_be_laid.Goals as goal

pub returns-then-sizes-n-le-MOST_ROWS : goal.returns-then-sizes-n-le-MOST_ROWS
returns-then-sizes-n-le-MOST_ROWS c = cycle_decides c.args.plan.now.fits c.args.n (as_bytes _ c.args.plan.now.in_bytes) c.if-sizes-n-le-MOST_ROWS.true c.cycle_too_large.ensures

pub returns-else-sizes-n-le-MOST_ROWS : goal.returns-else-sizes-n-le-MOST_ROWS
returns-else-sizes-n-le-MOST_ROWS c = lt-leb _ _ (omega arith) ∙ too_many c.args.plan.now.fits c.args.n (omega arith)
