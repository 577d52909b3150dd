-- `lanes::layout::lay_readings` meets its contract. Assumes nothing.
use native.Mathlib.Omega.{arith}
use Rattle.plan.proofs.Arrays.{readings_part}
use Rattle.lanes.proofs.Laying as law
use Rattle.lanes.proofs.layout.lay_readings.Goals as goal

pub lay_array-requires : goal.lay_array-requires
lay_array-requires c = (c.requires, (let whole = c.args.plan.now.fits.whole in omega (arith, c.head_length.ensures)))

pub returns : goal.returns
returns c = law.laid_as (readings_part c.args.plan.now.fits _ _ c.head_length.ensures (omega (arith, c.head_length.ensures))) c.lay_array.ensures
