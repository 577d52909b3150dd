-- The invariants of `labelling::guesses::guess_numbers`.
use mathlib.Core.Path.{◌≡◌}
use lib.ListN.{length}
use Rattle.labelling.proofs.guesses.guess_numbers.Given as goal

abbrev pub invariant-loop-k : goal.invariant-loop-k
invariant-loop-k g l = length l.table ≡ length l.initial.table
