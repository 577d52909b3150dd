-- The invariants of `labelling::guesses::guess_rows`.
use mathlib.Core.Path.{◌≡◌}
use lib.ListN.{length}
use Rattle.labelling.proofs.guesses.guess_rows.Given as goal

abbrev pub invariant-loop-row : goal.invariant-loop-row
invariant-loop-row l = length l.table ≡ length l.initial.table
