-- The invariants of `settling::operators::seen_round`.
use Rattle.words.specs.inner.Words.{mark_at}
use Rattle.settling.proofs.Stepping.{Round}
use Rattle.settling.proofs.operators.seen_round.Given as goal

abbrev pub invariant-loop-row : goal.invariant-loop-row
invariant-loop-row l = Round l.fn.laid.start l.fn.laid.cycle (mark_at l.scratch) l.operator l.row l.beside
