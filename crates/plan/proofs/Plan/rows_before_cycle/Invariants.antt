-- The invariants of `plan::check::rows_before_cycle`.
use Prim.Native.Nat.{◌+◌, ◌-◌}
use mathlib.Core.Path.{◌≡◌}
use Rattle.refusal.specs.Lowest.{lowest_from}
use Rattle.refusal.specs.First.{refused_at, at_lowest}
use Rattle.plan.specs.Refusals.{drifting, drift_refusal}
use Rattle.plan.proofs.Plan.rows_before_cycle.Given as goal

abbrev pub invariant-loop-k : goal.invariant-loop-k
invariant-loop-k l = let before = l.self.sizes.lead + l.self.sizes.start in
    at_lowest (drifting l.self.bytes.now) before (drift_refusal l.self.sizes.lead) ≡ refused_at (drift_refusal l.self.sizes.lead) (lowest_from (drifting l.self.bytes.now) l.k (before - l.k))
