-- `plan::lookup::stored_number` meets its contract. Assumes nothing.
use native.Mathlib.Omega.{arith}
use Rattle.plan.specs.inner.Sizes.{all_stored}
use Rattle.plan.proofs.Arrays.{cell_lt, value_read}
use Rattle.plan.proofs.Plan.stored_number.Goals as goal

pub number_on-requires : goal.number_on-requires
number_on-requires c = let sizes = c.args.self.now.sizes in
    let inside = cell_lt sizes.channels (all_stored sizes) c.args.k c.args.channel c.requires.1 c.requires.0 in (omega (arith, inside), omega (arith, inside), c.requires.2)

pub returns : goal.returns
returns c = (value_read c.args.self.now.fits c.args.k c.args.channel c.cell_of.ensures c.drifts.ensures.0 c.args.pass c.readings.ensures.0 c.number_on.ensures.0, c.number_on.ensures.1)
