-- `lanes::tops::seen_compare` meets its contract. Assumes nothing.
use Rattle.lanes.proofs.Topped.{seen_compared}
use Rattle.lanes.proofs.tops.seen_compare.Goals as goal

pub returns : goal.returns
returns c = seen_compared c.args.relation _ _ _ _ c.is_pinned-left.ensures c.is_pinned-right.ensures c.compare_pinned.ensures c.numbers_compare.ensures
