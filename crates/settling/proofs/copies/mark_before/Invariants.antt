-- The invariants of `settling::copies::mark_before`.
use Rattle.settling.proofs.Copying as law
use Rattle.settling.proofs.copies.mark_before.Given as goal

abbrev pub invariant-loop-row : goal.invariant-loop-row
invariant-loop-row l = law.Moving l.initial.scratch l.i l.a l.count l.scratch l.row
