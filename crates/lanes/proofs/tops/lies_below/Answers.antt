-- `lanes::tops::lies_below` meets its contract. Assumes nothing.
use Rattle.fields.specs.inner.Biased.{bias}
use Rattle.lanes.proofs.Topped.{below_lifted}
use Rattle.lanes.proofs.tops.lies_below.Goals as goal

pub returns : goal.returns
returns c = below_lifted bias bias c.args.top c.args.a c.args.d
