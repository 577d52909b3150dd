-- The invariants of `table::fills::fill_back`.
use Rattle.table.proofs.Filling.{Back}
use Rattle.table.proofs.fills.fill_back.Given as goal

abbrev pub invariant-loop-k : goal.invariant-loop-k
invariant-loop-k l = Back l.initial.table l.m l.a l.b l.count l.opposite l.end l.table l.mark l.k
