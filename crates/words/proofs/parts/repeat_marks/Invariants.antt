-- The invariants of `words::parts::repeat_marks`.
use Rattle.words.proofs.Marking.{MarksRepeating}
use Rattle.words.proofs.parts.repeat_marks.Given as goal

abbrev pub invariant-loop-row : goal.invariant-loop-row
invariant-loop-row l = MarksRepeating l.initial.scratch l.part l.cycle l.from l.end l.scratch l.row
