-- `lanes::tops::is_pinned` meets its contract. Assumes nothing.
use Rattle.lanes.proofs.Topped.{is_pinned_lem}
use Rattle.lanes.proofs.tops.is_pinned.Goals as goal

pub returns : goal.returns
returns c = is_pinned_lem c.args.top c.args.a
