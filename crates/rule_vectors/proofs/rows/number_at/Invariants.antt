use Rattle.std.proofs.Common.{◌≤◌}
use Rattle.rule_vectors.proofs.rows.number_at.Given as goal

abbrev pub invariant-loop-x : goal.invariant-loop-x
invariant-loop-x l = l.n ≤ 1000005
