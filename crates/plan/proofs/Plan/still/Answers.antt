-- `plan::sweeps::still` meets its contract. Assumes nothing.
use Rattle.plan.proofs.Drifts.{still_behind}
use Rattle.plan.proofs.Plan.still.Goals as goal

pub returns : goal.returns
returns c = λ all. still_behind c.args.self.now.fits _ _ (c.stored_still.ensures all)
