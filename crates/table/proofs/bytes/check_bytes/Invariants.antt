-- The invariants of `table::bytes::check_bytes`.
use mathlib.Core.Path.{◌≡◌}
use Prim.Native.Nat.{◌+◌, ◌-◌}
use Rattle.refusal.specs.Lowest.{lowest_from}
use Rattle.refusal.specs.First.{◌or_else◌, refused_at, in_turn_from, in_turn}
use Rattle.refusal.specs.Outcome.{unrefused}
use Rattle.refusal.specs.declared.Refusal.TheVariants.{MarkByte}
use Rattle.table.specs.Layout.{above_one, bytes_outcome}
use Rattle.table.proofs.bytes.check_bytes.Given as goal

abbrev pub invariant-loop-row : goal.invariant-loop-row
invariant-loop-row l = (l.answer ≡ unrefused) × (in_turn (bytes_outcome l.w l.table) l.n ≡ (refused_at (MarkByte l.part) (lowest_from (above_one l.w l.table l.part) l.row (l.w - l.row)) or_else in_turn_from (bytes_outcome l.w l.table) (l.part + 1) (l.n - (l.part + 1))))

abbrev pub invariant-parts : goal.invariant-parts
invariant-parts l = (l.answer ≡ unrefused) × (in_turn (bytes_outcome l.w l.table) l.n ≡ in_turn_from (bytes_outcome l.w l.table) l.part (l.n - l.part))
