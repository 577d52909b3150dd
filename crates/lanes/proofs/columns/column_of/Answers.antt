-- `lanes::columns::column_of` meets its contract. Assumes nothing.
use Rattle.plan.proofs.Arrays.{array_le}
use mir.Val.{SFits}
use native.Mathlib.Omega.{arith}
use mathlib.Core.Path.{refl, ◌∙◌, ap}
use mir.Syntax.{w32}
use mir.ValLaws.{to_z-of_z}
use Rattle.fields.specs.TwosComplement.{signed_of, pattern_of}
use Rattle.fields.proofs.Patterns.{signed_pattern, fits_w32}
use Rattle.lanes.proofs.Standing.{reading_few, constant_stands, reading_stands}
use Rattle.lanes.proofs.columns.column_of.Goals as goal

pub overflow_mul-source : goal.overflow_mul-source
overflow_mul-source c = let few = reading_few _ _ _ c.in-Reading.is c.requires.4 in let most = array_le c.in-Reading.channel c.args.w (omega arith) c.requires.0 in omega arith

pub overflow_add-source-in-Reading : goal.overflow_add-source-in-Reading
overflow_add-source-in-Reading c = let few = reading_few _ _ _ c.in-Reading.is c.requires.4 in let most = array_le c.in-Reading.channel c.args.w (omega arith) c.requires.0 in omega arith

pub returns-in-Constant : goal.returns-in-Constant
returns-in-Constant c = let fits : SFits w32 c.in-Constant.z = record { sfits = c.in-Constant.known_told-1-own.given.0.1 } in (constant_stands _ _ _ _ _ _ _ c.in-Constant.is (ap (signed_of 4) (c.pattern.ensures ∙ ap (pattern_of 4) (to_z-of_z w32 _ fits)) ∙ signed_pattern 4 _ (fits_w32 _ fits)), refl)

pub returns-in-Reading : goal.returns-in-Reading
returns-in-Reading c = (reading_stands _ _ _ _ _ _ _ c.in-Reading.is, refl)
