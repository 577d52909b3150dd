-- The refusals of a rule sheet, 1 to 3, in the order of checking. Assumes nothing.
use Rattle.std.specs.Prelude.{Result, Ok, Err, ℕ, List, Bool, true, false}
use Rattle.cltlb.specs.declared.Part.{Part}
use Rattle.refusal.specs.declared.Refusal.{Refusal}
use Rattle.refusal.specs.Outcome.{Outcome}
use Rattle.refusal.specs.declared.Refusal.TheVariants.{RuleSizes, Kind, Operand}
use Rattle.refusal.specs.First.{◌or_else◌, unless, at_lowest}
use Rattle.rule.specs.Layout.{part_count, sizes_fit}
use Rattle.rule.specs.Kinds.{kind_unknown}
use Rattle.rule.specs.Take.{take_of}

-- a part that cannot be taken off the sheet
unfoldable pub is_refused : Result Part Refusal → Bool
is_refused (Ok p) = false
is_refused (Err r) = true

unfoldable pub untakeable : List ℕ → ℕ → Bool
untakeable sheet n = is_refused (take_of sheet n)

-- 1 The rule sheet has fewer than 4 bytes, N or V outside its range, or another length than its sizes give. 2 A kind byte
-- is not 1 to 14 (lowest such part). 3 An operand breaks the layout (lowest such part): all kinds being known, it is what
-- keeps a part from being taken.
unfoldable pub sheet_outcome : List ℕ → Outcome
sheet_outcome sheet =
    unless (sizes_fit sheet) RuleSizes
    or_else at_lowest (kind_unknown sheet) (part_count sheet) Kind
    or_else at_lowest (untakeable sheet) (part_count sheet) Operand
