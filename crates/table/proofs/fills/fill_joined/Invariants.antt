-- The invariants of `table::fills::fill_joined`.
use mathlib.Core.Bool.{◌||◌}
use Rattle.table.specs.Bytes.{byte_of}
use Rattle.table.specs.inner.Tables.{flipped}
use Rattle.table.specs.inner.Sweeps.{marks_from}
use Rattle.table.proofs.Filling.{Filled}
use Rattle.table.proofs.fills.fill_joined.Given as goal

abbrev pub invariant-loop-k : goal.invariant-loop-k
invariant-loop-k l = Filled l.initial.table l.m l.count (λ j. byte_of (flipped l.opposite (marks_from l.opposite l.initial.table l.b j || marks_from l.opposite l.initial.table l.a j))) l.table l.k
