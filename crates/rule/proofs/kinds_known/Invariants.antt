-- The invariants of `rule::kinds_known`.
use mathlib.Core.Path.{◌≡◌}
use mathlib.Core.Bool.{true}
use Rattle.rule.specs.inner.Known.{AllKnown}
use Rattle.rule.proofs.kinds_known.Given as goal

abbrev pub invariant-loop-n : goal.invariant-loop-n
invariant-loop-n l = l.all ≡ true → AllKnown l.sheet l.n
