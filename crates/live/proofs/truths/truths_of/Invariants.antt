-- The invariants of `live::truths::truths_of`.
use mathlib.Core.Path.{◌≡◌}
use Rattle.live.specs.Truths.{truths_to}
use Rattle.live.proofs.truths.truths_of.Given as goal

abbrev pub invariant-loop-i : goal.invariant-loop-i
invariant-loop-i l = l.this ≡ truths_to l.readings l.age l.rule l.before l.n l.i
