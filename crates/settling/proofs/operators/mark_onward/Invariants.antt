-- The invariants of `settling::operators::mark_onward`.
use Rattle.settling.proofs.Stepping.{Onward}
use Rattle.settling.proofs.operators.mark_onward.Given as goal

abbrev pub invariant-loop-row : goal.invariant-loop-row
invariant-loop-row l = Onward l.initial.scratch l.i l.operator l.first l.count l.scratch l.row l.beside
