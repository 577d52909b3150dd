-- `lanes::sweeps::lines_agree` meets its contract. Assumes nothing.
use Rattle.lanes.specs.inner.Stretches.{mark_of}
use Rattle.lanes.proofs.Sweeping as law
use Rattle.lanes.proofs.sweeps.lines_agree.Goals as goal

pub returns-then-same_values : goal.returns-then-same_values
returns-then-same_values c = let l = c.args.lines.now in let s = l.stretch in law.same_then s.values.now l.drifts.now s.x s.y (mark_of s) s.count c.in-Same.is c.same_values.ensures c.if-same_values.true c.same_stay.ensures

pub returns-else-same_values : goal.returns-else-same_values
returns-else-same_values c = let l = c.args.lines.now in let s = l.stretch in law.same_not s.values.now l.drifts.now s.x s.y (mark_of s) s.count c.in-Same.is c.same_values.ensures c.if-same_values.false
