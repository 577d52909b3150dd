-- `plan::lookup::drifts` meets its contract. Assumes nothing.
use native.Mathlib.Omega.{arith}
use lib.ListN.{length-take, length-drop}
use Rattle.plan.proofs.Arrays.{drifts_part}
use Rattle.plan.proofs.Plan.drifts.Goals as goal

pub returns : goal.returns
returns c = let fits = c.args.self.now.fits in (drifts_part fits _ _ c.drifts_start.ensures.0 (omega (arith, fits.whole)), simp (length-take, length-drop) (omega (arith, fits.whole)))
