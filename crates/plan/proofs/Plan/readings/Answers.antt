-- `plan::lookup::readings` meets its contract. Assumes nothing.
use native.Mathlib.Omega.{arith}
use lib.ListN.{length-take, length-drop}
use Rattle.plan.proofs.Arrays.{readings_part}
use Rattle.plan.proofs.Plan.readings.Goals as goal

pub returns : goal.returns
returns c = let fits = c.args.self.now.fits in (readings_part fits _ _ c.head_length.ensures c.drifts_start.ensures.0, simp (length-take, length-drop) (omega (arith, fits.whole)))
