-- `lanes::tops::under_agree` meets its contract. Assumes nothing.
use Rattle.lanes.specs.inner.Stretches.{mark_of}
use Rattle.lanes.proofs.Topped.{as_lines}
use Rattle.lanes.proofs.tops.under_agree.Goals as goal

pub returns-then-stays_free-2 : goal.returns-then-stays_free-2
returns-then-stays_free-2 c = let l = c.args.lines.now in let s = l.stretch in as_lines c.args.relation s.values.now l.drifts.now s.x s.y (mark_of s) s.count (c.stays_free.ensures c.if-stays_free.true) (c.stays_free-then-stays_free.ensures c.if-stays_free-2.true) c.lines_agree.ensures
