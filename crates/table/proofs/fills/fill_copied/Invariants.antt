-- The invariants of `table::fills::fill_copied`.
use Rattle.table.specs.Bytes.{byte_of}
use Rattle.table.specs.inner.Sweeps.{marks_from}
use Rattle.table.proofs.Filling.{Filled}
use Rattle.table.proofs.fills.fill_copied.Given as goal

abbrev pub invariant-loop-k : goal.invariant-loop-k
invariant-loop-k l = Filled l.initial.table l.m l.count (λ j. byte_of (marks_from l.opposite l.initial.table l.a j)) l.table l.k
