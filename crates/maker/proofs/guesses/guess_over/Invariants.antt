-- The invariants of `maker::guesses::guess_over`.
use mathlib.Core.Path.{◌≡◌}
use lib.ListN.{length}
use Rattle.maker.proofs.guesses.guess_over.Given as goal

abbrev pub invariant-loop-i : goal.invariant-loop-i
invariant-loop-i l = length l.table ≡ length l.initial.table
