use mathlib.Core.Path.{◌∙◌, ap}
use mir.Syntax.{w32}
use mir.Val.{of_z}
use mir.ValLaws.{to_z-of_z}
use Rattle.fields.proofs.Patterns.{bits_pattern}
use Rattle.fields.proofs.pattern.Goals as goal

pub returns : goal.returns
returns c = c.cast_unsigned.ensures ∙ ap (of_z w32) (to_z-of_z w32 c.args.x c.ranges.x) ∙ bits_pattern c.args.x c.ranges.x
