use mathlib.Core.Path.{◌∙◌, ap}
use mir.Syntax.{w32}
use mir.ValLaws.{to_z-of_z}
use Rattle.fields.specs.TwosComplement.{signed_of, signed_at}
use Rattle.fields.proofs.Patterns.{pattern_bits}
use Rattle.fields.proofs.i32_at.Goals as goal

pub returns : goal.returns
unfolding signed_at
returns c = to_z-of_z w32 c.cast_signed.result (record { sfits = c.cast_signed.type_inv }) ∙ c.cast_signed.ensures ∙ pattern_bits _ c.u32_at.type_inv ∙ ap (signed_of 4) c.u32_at.ensures
