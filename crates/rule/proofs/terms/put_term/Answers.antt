use native.Mathlib.Omega.{arith}
use mathlib.Core.Path.{sym, ◌∙◌, ap}
use mir.Syntax.{w32}
use mir.ValLaws.{to_z-of_z}
use Rattle.fields.specs.TwosComplement.{pattern_of}
use Rattle.fields.proofs.Patterns.{fits_w32}
use Rattle.cltlb.specs.Fits.{shift_fits, term_fits}
use Rattle.cltlb.proofs.Fits.{reading_fits}
use Rattle.rule.specs.Terms.{code_of}
use Rattle.rule.proofs.TermsWritten as law
use Rattle.rule.proofs.terms.put_term.Goals as goal

pub code_of-requires : goal.code_of-requires
code_of-requires c = ap shift_fits (to_z-of_z w32 c.in-Reading.shift (record { sfits = c.in-Reading.known_told-in-Reading-1-own.given.1.0.1 }))
    ∙ (reading_fits 8 _ _ (sym (ap (term_fits 8) c.in-Reading.is) ∙ c.requires.1)).1

pub overflow_cast-channel : goal.overflow_cast-channel
overflow_cast-channel c = omega (arith, (reading_fits 8 _ _ (sym (ap (term_fits 8) c.in-Reading.is) ∙ c.requires.1)).0)

pub returns-in-Constant : goal.returns-in-Constant
returns-in-Constant c = (
  c.put_fields.ensures
      ∙ law.constant_bytes c.args.t.now c.in-Constant.is
      (c.pattern.ensures ∙ ap (pattern_of 4) (to_z-of_z w32 c.in-Constant.z (record { sfits = c.in-Constant.known_told-1-own.given.0.1 }))),
  law.constant_word c.in-Constant.is (fits_w32 c.in-Constant.z (record { sfits = c.in-Constant.known_told-1-own.given.0.1 })),
)

pub returns-in-Reading : goal.returns-in-Reading
returns-in-Reading c = (
  c.put_fields-in-Reading.ensures
      ∙ law.reading_bytes c.args.t.now c.in-Reading.is
      (c.code_of.ensures ∙ ap code_of (to_z-of_z w32 c.in-Reading.shift (record { sfits = c.in-Reading.known_told-in-Reading-1-own.given.1.0.1 }))),
  law.reading_word c.in-Reading.is,
)
