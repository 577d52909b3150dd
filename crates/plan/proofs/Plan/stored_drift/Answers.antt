-- `plan::lookup::stored_drift` meets its contract. Assumes nothing.
use native.Mathlib.Omega.{arith}
use Rattle.plan.specs.inner.Sizes.{all_stored}
use Rattle.plan.proofs.Arrays.{cell_lt, drift_read}
use Rattle.plan.proofs.Plan.stored_drift.Goals as goal

pub entry_at-requires : goal.entry_at-requires
entry_at-requires c = let sizes = c.args.self.now.sizes in omega (arith, cell_lt sizes.channels (all_stored sizes) c.args.k c.args.channel c.requires.1 c.requires.0)

pub returns : goal.returns
returns c = (drift_read c.args.self.now.fits c.args.k c.args.channel c.cell_of.ensures c.drifts.ensures.0 c.entry_at.ensures.0, c.entry_at.ensures.1)
