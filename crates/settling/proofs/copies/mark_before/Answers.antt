-- `settling::copies::mark_before` meets its contract. Assumes nothing.
use Rattle.settling.proofs.Copying as law
use Rattle.settling.proofs.copies.mark_before.Goals as goal

pub loop-row-preserved : goal.loop-row-preserved
loop-row-preserved c = law.moving_next c.requires.2 c.loop-row.invariant c.loop-row-test.true c.mark_at-mark.ensures c.put_mark.ensures
