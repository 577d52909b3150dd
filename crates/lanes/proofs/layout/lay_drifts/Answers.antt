-- `lanes::layout::lay_drifts` meets its contract. Assumes nothing.
use native.Mathlib.Omega.{arith}
use mathlib.Core.Path.{refl}
use Rattle.plan.proofs.Arrays.{drifts_part}
use Rattle.lanes.proofs.Laying as law
use Rattle.lanes.proofs.layout.lay_drifts.Goals as goal

pub lay_array-requires : goal.lay_array-requires
lay_array-requires c = (c.requires, (let whole = c.args.plan.now.fits.whole in omega (arith, c.drifts_start.ensures.0)))

pub returns : goal.returns
returns c = law.laid_as (drifts_part c.args.plan.now.fits _ _ c.drifts_start.ensures.0 refl) c.lay_array.ensures
