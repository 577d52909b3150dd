-- A part as it lies on a sheet: where its bytes are, and which they are. Assumes nothing.
use Prim.Native.Nat.{ℕ, ◌<◌}
use mathlib.Core.Path.{◌≡◌}
use mathlib.Core.List.{List}
use mathlib.Core.Bool.{true}
use lib.ListN.{take, drop}
use Rattle.cltlb.specs.declared.Part.{Part}
use Rattle.rule.specs.declared.operands.Operand.{Operand}
use Rattle.rule.specs.declared.operands.Operand.TheVariants.{Terms, One, Two, Window, Pinned}
use Rattle.rule.specs.declared.operands.Shape.{Shape}
use Rattle.rule.specs.declared.operands.Shape.TheVariants.{Comparison, NamesOne, NamesTwo}
use Rattle.rule.specs.declared.operands.Shape.TheVariants as shape
use Rattle.rule.specs.Layout.{part_count, channel_count, kind_byte, operand_place, sizes_fit}
use Rattle.cltlb.specs.Views.{view_of}
use Rattle.cltlb.specs.Fits.{view_fits}
use Rattle.rule.specs.Operands.{operand_bytes}
use Rattle.rule.specs.Kinds.{kind_of, operand_of}
use Rattle.rule.specs.inner.Words.{WordOperand}

-- the shape of an operand
abbrev pub shape_in : Operand → Shape
shape_in (Terms x y) = Comparison
shape_in (One a) = NamesOne
shape_in (Two a b) = NamesTwo
shape_in (Window channel shift from to) = shape.Window
shape_in (Pinned channel shift) = shape.Pinned

-- the constants of a part are signed numbers of four bytes
abbrev pub Words : Part → Type 0
Words part = WordOperand (operand_of part)

-- Part n of the sheet is this part: its kind byte in the first array and the twelve bytes of its operand in the second.
pub record Laid (sheet : List ℕ) (n : ℕ) (part : Part) : Type 0 where
  pub sizes : sizes_fit sheet ≡ true
  pub present : n < part_count sheet
  pub kind : kind_byte sheet n ≡ kind_of part
  pub bytes : take 12 (drop (operand_place (part_count sheet) n) sheet) ≡ operand_bytes (operand_of part)
  pub fits : view_fits (channel_count sheet) n (view_of part) ≡ true
