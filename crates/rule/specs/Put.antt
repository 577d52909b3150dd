-- "Put" writes one part at a stated number into a lent sheet. Assumes nothing.
use Rattle.std.specs.Prelude.{Ok, Err, ℕ, ◌+◌, List, ◌++◌, ltb, length, take, drop, set}
use Rattle.refusal.specs.Outcome.{Outcome}
use Rattle.refusal.specs.declared.Refusal.TheVariants.{RuleSizes, Operand, Absent}
use Rattle.refusal.specs.First.{◌or_else◌, unless}
use Rattle.cltlb.specs.declared.Part.{Part}
use Rattle.cltlb.specs.Views.{view_of}
use Rattle.cltlb.specs.Fits.{view_fits}
use Rattle.rule.specs.Layout.{part_count, channel_count, kind_place, operand_place, sizes_fit}
use Rattle.rule.specs.Operands.{operand_bytes}
use Rattle.rule.specs.Kinds.{kind_of, operand_of}

-- Put: 1, 12, 3, the part being held against that number and the sheet's V.
unfoldable pub put_outcome : List ℕ → ℕ → Part → Outcome
put_outcome sheet n part =
    unless (sizes_fit sheet) RuleSizes
    or_else unless (ltb n (part_count sheet)) Absent
    or_else unless (view_fits (channel_count sheet) n (view_of part)) (Operand n)

-- a list with other bytes from `at` on
unfoldable pub overwritten : List ℕ → ℕ → List ℕ → List ℕ
overwritten s at bytes = take at s ++ (bytes ++ drop (at + length bytes) s)

-- The kind byte and the operand's bytes in the middle of the sheet are written, and every other byte keeps its value.
unfoldable pub written : List ℕ → ℕ → Part → List ℕ
written sheet n part =
    overwritten (set sheet (kind_place n) (kind_of part)) (operand_place (part_count sheet) n) (operand_bytes (operand_of part))

-- the bytes after a put: written, or where it was refused, as they were
unfoldable pub after_put : Outcome → List ℕ → List ℕ → List ℕ
after_put (Ok _) new old = new
after_put (Err r) new old = old

unfoldable pub put_bytes : List ℕ → ℕ → Part → List ℕ
put_bytes sheet n part = after_put (put_outcome sheet n part) (written sheet n part) sheet
