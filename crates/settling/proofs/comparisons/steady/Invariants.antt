-- The invariants of `settling::comparisons::steady`.
use Rattle.settling.proofs.Looked as law
use Rattle.settling.proofs.comparisons.steady.Given as goal

abbrev pub invariant-loop-t : goal.invariant-loop-t
invariant-loop-t l = law.Looked l.plan.bytes.now l.comparison l.from l.plan.sizes.cycle l.end l.t
