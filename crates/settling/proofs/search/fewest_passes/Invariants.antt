-- The invariants of `settling::search::fewest_passes`.
use Prim.Native.Nat.{◌+◌, ◌-◌}
use Rattle.settling.proofs.Searching.{Searching}
use Rattle.settling.proofs.search.fewest_passes.Given as goal

abbrev pub invariant-loop-i : goal.invariant-loop-i
invariant-loop-i l = Searching l.inputs.rule.now l.inputs.plan.bytes.now l.inputs.parts l.scratch l.passes l.i

abbrev pub decreases-loop-i : goal.decreases-loop-i
decreases-loop-i l = (l.inputs.parts - l.i) + (256 - l.passes)
