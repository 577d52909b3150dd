-- The invariants of `labelling::atoms::label_rows`.
use Rattle.labelling.proofs.Verdicts as law
use Rattle.labelling.proofs.atoms.label_rows.Given as goal

abbrev pub invariant-loop-row : goal.invariant-loop-row
invariant-loop-row l = law.Labelling l.plan.bytes.now l.initial.table l.comparison l.i l.w l.own l.table l.row
