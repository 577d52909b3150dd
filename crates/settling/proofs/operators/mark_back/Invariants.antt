-- The invariants of `settling::operators::mark_back`.
use Rattle.settling.proofs.Stepping.{Back}
use Rattle.settling.proofs.operators.mark_back.Given as goal

abbrev pub invariant-loop-row : goal.invariant-loop-row
invariant-loop-row l = Back l.fn.laid.start l.fn.laid.cycle l.initial.scratch l.i l.operator l.scratch l.row l.beside
