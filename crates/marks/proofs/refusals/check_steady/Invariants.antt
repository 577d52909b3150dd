-- The invariants of `marks::refusals::check_steady`.
use Prim.Native.Nat.{◌≤◌}
use mathlib.Core.Path.{◌≡◌}
use Rattle.refusal.specs.declared.Refusal.TheVariants.{Closing}
use Rattle.refusal.proofs.Search.{search_from}
use Rattle.verdict.specs.Meaning.{is_changes}
use Rattle.verdict.specs.Rows.{verdict_of}
use Rattle.marks.specs.Parts.{steady_outcome}
use Rattle.marks.proofs.refusals.check_steady.Given as goal

abbrev pub invariant-loop-row : goal.invariant-loop-row
invariant-loop-row l = (l.plan.sizes.start ≤ l.row) × (l.row ≤ l.w) × (steady_outcome l.plan.bytes.now l.atom l.i ≡ search_from (λ r. is_changes (verdict_of l.plan.bytes.now l.atom r)) l.w (Closing l.i) l.row)
