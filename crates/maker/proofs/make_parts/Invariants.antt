-- The invariants of `maker::make_parts`.
use Prim.Native.Nat.{◌-◌}
use mathlib.Core.Path.{◌≡◌}
use lib.ListN.{length}
use Rattle.refusal.specs.First.{in_turn_from}
use Rattle.plan.specs.inner.Sizes.{all_rows}
use Rattle.maker.specs.Make.{open_outcome, closings_outcome}
use Rattle.maker.specs.inner.Parts.{MadeBelow}
use Rattle.maker.proofs.make_parts.Given as goal

abbrev pub invariant-loop-i : goal.invariant-loop-i
invariant-loop-i l = (closings_outcome l.inputs.rule.now l.inputs.plan.bytes.now ≡ in_turn_from (open_outcome l.inputs.rule.now l.inputs.plan.bytes.now) l.i (l.inputs.parts - l.i)) × (MadeBelow l.inputs.rule.now l.inputs.plan.bytes.now l.table l.inputs.parts (all_rows l.inputs.plan.sizes) l.i) × (length l.table ≡ length l.initial.table)
