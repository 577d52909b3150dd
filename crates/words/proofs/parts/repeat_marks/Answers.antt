-- `words::parts::repeat_marks` meets its contract. Assumes nothing.
use Rattle.words.proofs.Marking.{marks_next}
use Rattle.words.proofs.parts.repeat_marks.Goals as goal

pub loop-row-preserved : goal.loop-row-preserved
loop-row-preserved c = marks_next c.requires.2 c.requires.3 c.loop-row.invariant c.loop-row-test.true c.mark_at-mark.ensures c.put_mark.ensures
