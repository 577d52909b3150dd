-- The invariants of `settling::steady::steady_after`.
use Prim.Native.Nat.{◌-◌}
use Rattle.settling.proofs.Steadying as law
use Rattle.settling.proofs.steady.steady_after.Given as goal

abbrev pub invariant-loop-low : goal.invariant-loop-low
invariant-loop-low l = law.Enclosing l.plan.bytes.now l.plan.sizes l.comparison l.passes l.low l.high l.step

abbrev pub decreases-loop-low : goal.decreases-loop-low
decreases-loop-low l = l.high - l.low
