-- `lanes::tops::seen_agree` meets its contract. Assumes nothing.
use Rattle.lanes.specs.inner.Stretches.{mark_of}
use Rattle.lanes.proofs.Topped.{as_numbers}
use Rattle.lanes.proofs.tops.seen_agree.Goals as goal

pub returns-then-stretch-eq0-2 : goal.returns-then-stretch-eq0-2
returns-then-stretch-eq0-2 c = let s = c.args.stretch.now in as_numbers c.args.relation s.values.now s.x s.y (mark_of s) s.count c.if-stretch-eq0.true c.if-stretch-eq0-2.true c.values_agree.ensures
