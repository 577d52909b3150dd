-- "Take" gives the part with a stated number. Assumes nothing.
use Rattle.std.specs.Prelude.{Result, Ok, Err, Option, Some, None, ℕ, List, not, cond, leb, pos}
use Rattle.refusal.specs.declared.Refusal.{Refusal}
use Rattle.refusal.specs.declared.Refusal.TheVariants.{RuleSizes, Kind, Operand, Absent}
use Rattle.cltlb.specs.declared.Term.TheVariants.{Constant}
use Rattle.cltlb.specs.declared.Part.{Part}
use Rattle.cltlb.specs.declared.Part.TheVariants.{Less}
use Rattle.cltlb.specs.declared.View.{View}
use Rattle.cltlb.specs.Views.{view_of}
use Rattle.cltlb.specs.Fits.{view_fits}
use Rattle.rule.specs.declared.operands.Operand as operands
use Rattle.rule.specs.Layout.{part_count, channel_count, kind_byte, operand_place, sizes_fit}
use Rattle.rule.specs.Operands.{operand_at}
use Rattle.rule.specs.Kinds.{shape_of, kind_unknown, part_of}

-- a part that was read, against V channels: its operand breaks the layout unless it fits
abbrev pub taken_part : ℕ → ℕ → Part → Result Part Refusal
taken_part v n p = cond (view_fits v n (view_of p)) (Ok p) (Err (Operand n))

unfoldable pub taken_operand : ℕ → ℕ → ℕ → Option operands.Operand → Result Part Refusal
taken_operand v n k (Some x) = taken_part v n (part_of k x)
taken_operand v n k None = Err (Operand n)

-- Take: 1, 12, then 2 and 3 on that part. Only that part is looked at.
unfoldable pub take_of : List ℕ → ℕ → Result Part Refusal
take_of sheet n =
    cond (not (sizes_fit sheet)) (Err RuleSizes)
    (cond (leb (part_count sheet) n) (Err Absent)
    (cond (kind_unknown sheet n) (Err (Kind n))
    (taken_operand (channel_count sheet) n (kind_byte sheet n)
    (operand_at (shape_of (kind_byte sheet n)) sheet (operand_place (part_count sheet) n)))))

-- the parts of a sheet, by number; where there is none, a comparison that is false
unfoldable pub part_taken : Result Part Refusal → Part
part_taken (Ok p) = p
part_taken (Err r) = Less (Constant (pos 0)) (Constant (pos 0))

unfoldable pub parts_of : List ℕ → ℕ → Part
parts_of sheet n = part_taken (take_of sheet n)

-- the same as the logic looks at them
unfoldable pub views_of : List ℕ → ℕ → View
views_of sheet n = view_of (parts_of sheet n)
