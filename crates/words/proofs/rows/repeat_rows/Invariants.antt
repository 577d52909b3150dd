-- The invariants of `words::rows::repeat_rows`.
use Rattle.words.proofs.Marking.{Repeating}
use Rattle.words.proofs.rows.repeat_rows.Given as goal

abbrev pub invariant-loop-row : goal.invariant-loop-row
invariant-loop-row l = Repeating l.initial.scratch l.cycle l.from l.end l.scratch l.row
