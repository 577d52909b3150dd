-- The invariants of `table::fills::swept_back`.
use Rattle.table.proofs.Filling.{Swept}
use Rattle.table.proofs.fills.swept_back.Given as goal

abbrev pub invariant-loop-k : goal.invariant-loop-k
invariant-loop-k l = Swept l.table l.a l.b l.from l.count l.opposite l.mark l.k
