use mathlib.Core.Path.{ap, sym, ◌∙◌}
use lib.IntN.{ℤ, pos, negsuc}
use lib.Signed.{lt_z, le_z}
use mir.Syntax.{w32}
use mir.ValLaws.{to_z-of_z}
use Rattle.cltlb.proofs.Fits as law
use Rattle.cltlb.proofs.term_fits.Goals as goal

pub returns-then-v-channel : goal.returns-then-v-channel
returns-then-v-channel c = law.fits_channel _ c.in-Reading.is c.if-v-channel.true

pub returns-then-shift-ltminus4 : goal.returns-then-shift-ltminus4
returns-then-shift-ltminus4 c = law.fits_low _ c.in-Reading.is c.if-v-channel.false (ap (λ (z : ℤ). lt_z z (negsuc 3)) (sym (to_z-of_z w32 c.in-Reading.shift (record { sfits = c.in-Reading.known_told-1-own.given.1.0.1 }))) ∙ c.if-shift-ltminus4.true)

pub returns-in-Constant : goal.returns-in-Constant
returns-in-Constant c = law.fits_constant _ c.in-Constant.is

pub returns-else-shift-ltminus4 : goal.returns-else-shift-ltminus4
returns-else-shift-ltminus4 c = ap (λ (z : ℤ). le_z z (pos 4)) (to_z-of_z w32 c.in-Reading.shift (record { sfits = c.in-Reading.known_told-1-own.given.1.0.1 })) ∙ law.fits_high _ c.in-Reading.is c.if-v-channel.false (ap (λ (z : ℤ). lt_z z (negsuc 3)) (sym (to_z-of_z w32 c.in-Reading.shift (record { sfits = c.in-Reading.known_told-1-own.given.1.0.1 }))) ∙ c.if-shift-ltminus4.false)
