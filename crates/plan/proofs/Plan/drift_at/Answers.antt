-- `plan::lookup::drift_at` meets its contract. Assumes nothing.
use Rattle.plan.proofs.Arrays.{drift_behind}
use Rattle.plan.proofs.Plan.drift_at.Goals as goal

pub returns : goal.returns
returns c = (drift_behind c.args.self.now.fits c.args.row c.args.channel c.stored_drift.ensures.0, c.stored_drift.ensures.1)
