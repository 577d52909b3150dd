-- `plan::lookup::number_on` meets its contract. Assumes nothing.
use native.Mathlib.Omega.{arith}
use Rattle.plan.proofs.Lifts.{lifted, drift_le}
use Rattle.plan.proofs.lookup.number_on.Goals as goal

pub returns : goal.returns
returns c = (lifted c.entry_at.result c.entry_at-2.result c.args.pass c.requires.2 c.entry_at.ensures.0 c.entry_at-2.ensures.0, omega (arith, drift_le c.entry_at-2.result c.args.pass c.entry_at-2.ensures.1))
