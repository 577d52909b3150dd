-- The invariants of `verdict::laps::enters`.
use mathlib.Core.Logic.{◌↔◌}
use Rattle.verdict.specs.inner.Walks.{Enters, Sized}
use Rattle.verdict.proofs.laps.enters.Given as goal

abbrev pub invariant-loop-w : goal.invariant-loop-w
invariant-loop-w l = Sized l.w × (Enters l.w l.len ↔ Enters l.initial.w l.len)

abbrev pub decreases-loop-w : goal.decreases-loop-w
decreases-loop-w l = l.w.lap
