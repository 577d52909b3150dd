-- A rule sheet's refusals are 1 to 3, and two bytes hold the part that one names. Assumes nothing.
use Prim.Native.Nat.{ℕ}
use native.Mathlib.Omega.{arith}
use mathlib.Core.List.{List}
use Rattle.refusal.specs.declared.Refusal.TheVariants.{RuleSizes, Kind, Operand}
use Rattle.refusal.specs.First.{◌or_else◌, unless, at_lowest}
use Rattle.refusal.proofs.First.{unless_clear}
use Rattle.refusal.proofs.RefusesOnly.{Within, RefusesOnly, or_else_only, unless_only, at_lowest_only}
use Rattle.rule.specs.Layout.{part_count, sizes_fit}
use Rattle.rule.specs.Kinds.{kind_unknown}
use Rattle.rule.specs.Sheet.{untakeable, sheet_outcome}
use Rattle.rule.proofs.SizesKnown.{sizes_known}

pub sheet_within : (s : List ℕ) → RefusesOnly (Within 1 3) (sheet_outcome s)
unfolding sheet_outcome
sheet_within s =
    or_else_only (Within 1 3) (unless (sizes_fit s) RuleSizes) (at_lowest (kind_unknown s) (part_count s) Kind or_else at_lowest (untakeable s) (part_count s) Operand)
    (unless_only (Within 1 3) (sizes_fit s) RuleSizes (omega arith))
    (λ e.
    let k = (sizes_known s ((unless_clear (sizes_fit s) RuleSizes).0 e)).1 in
    or_else_only (Within 1 3) (at_lowest (kind_unknown s) (part_count s) Kind) (at_lowest (untakeable s) (part_count s) Operand)
    (at_lowest_only (Within 1 3) (kind_unknown s) (part_count s) Kind (λ j h. omega arith))
    (λ _. at_lowest_only (Within 1 3) (untakeable s) (part_count s) Operand (λ j h. omega arith)))
