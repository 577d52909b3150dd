-- The invariants of `verdict::weeks::spacing`.
use mathlib.Core.Path.{◌≡◌}
use Rattle.cltlb.specs.Week.{week}
use Rattle.verdict.specs.Divisors.{gcd}
use Rattle.verdict.proofs.weeks.spacing.Given as goal

abbrev pub invariant-loop-y : goal.invariant-loop-y
invariant-loop-y l = gcd l.x l.y ≡ gcd week l.step

abbrev pub decreases-loop-y : goal.decreases-loop-y
decreases-loop-y l = l.y
