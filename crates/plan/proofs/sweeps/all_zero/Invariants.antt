-- The invariants of `plan::sweeps::all_zero`.
use mathlib.Core.Path.{◌≡◌}
use Rattle.plan.specs.inner.Drifts.{all_zero}
use Rattle.plan.proofs.sweeps.all_zero.Given as goal

abbrev pub invariant-loop-k : goal.invariant-loop-k
invariant-loop-k l = l.all ≡ all_zero l.array l.from l.k
