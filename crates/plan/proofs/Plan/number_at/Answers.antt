-- `plan::lookup::number_at` meets its contract. Assumes nothing.
use Rattle.plan.proofs.Arrays.{value_behind}
use Rattle.plan.proofs.Plan.number_at.Goals as goal

pub returns : goal.returns
returns c = (value_behind c.args.self.now.fits c.args.row c.args.channel c.args.pass c.stored_number.ensures.0, c.stored_number.ensures.1)
