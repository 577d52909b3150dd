-- `plan::check::drifting` meets its contract. Assumes nothing.
use mathlib.Core.Path.{refl}
use Rattle.std.proofs.Common.{rules}
use Rattle.plan.specs.Refusals.{drifting, drifts_at}
use Rattle.plan.proofs.Drifts.{drift_seen}
use Rattle.plan.proofs.Searches.{any_found}
use Rattle.plan.proofs.Plan.drifting.Goals as goal

pub returns : goal.returns
unfolding drifting
returns c = let plan = c.args.self.now in
    rw plan.fits.v_is (any_found (drifts_at plan.bytes.now c.args.k) plan.sizes.channels _ _ _ refl c.any.ensures.ran (λ x b q called. search (rules, drift_seen)))
