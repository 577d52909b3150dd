-- The invariants of `table::fills::fill_on`.
use Rattle.table.proofs.Filling.{On}
use Rattle.table.proofs.fills.fill_on.Given as goal

abbrev pub invariant-loop-k : goal.invariant-loop-k
invariant-loop-k l = On l.initial.table l.m l.a l.b l.count l.opposite l.table l.mark l.k
