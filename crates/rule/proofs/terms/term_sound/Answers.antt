use mathlib.Core.Path.{◌∙◌}
use Rattle.rule.specs.Terms.{term_at}
use Rattle.rule.proofs.TermsSound as law
use Rattle.rule.proofs.terms.term_sound.Goals as goal

pub returns-then-constant_sound : goal.returns-then-constant_sound
returns-then-constant_sound c = c.if-constant_sound.true ∙ law.sound_constant c.args.v (term_at c.args.s.now c.args.at) c.constant_sound.ensures c.if-constant_sound.true

pub returns-else-constant_sound : goal.returns-else-constant_sound
returns-else-constant_sound c = law.sound_reading c.args.v (term_at c.args.s.now c.args.at) c.constant_sound.ensures c.if-constant_sound.false c.reading_sound.ensures
