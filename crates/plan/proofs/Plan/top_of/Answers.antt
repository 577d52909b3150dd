-- `plan::tops::top_of` meets its contract. Assumes nothing.
use native.Mathlib.Omega.{arith}
use Rattle.plan.proofs.Pinned.{top_lifted, top_read}
use Rattle.plan.proofs.Plan.top_of.Goals as goal

pub overflow_sub-result : goal.overflow_sub-result
overflow_sub-result c = top_lifted c.args.self.now.fits c.args.channel _ c.requires c.tops.ensures.0 c.entry_at.ensures.0

pub returns : goal.returns
returns c = (top_read c.args.self.now.fits c.args.channel _ c.requires c.tops.ensures.0 c.entry_at.ensures.0, omega (arith, c.entry_at.ensures.1))
