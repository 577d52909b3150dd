-- The invariants of `live::copy_rule`.
use mathlib.Core.Path.{◌≡◌}
use lib.Seq.{paste}
use Rattle.live.proofs.copy_rule.Given as goal

abbrev pub invariant-loop-j : goal.invariant-loop-j
invariant-loop-j l = l.rules ≡ paste l.initial.rules l.start l.sheet l.j
