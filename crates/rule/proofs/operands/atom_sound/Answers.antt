use Rattle.rule.specs.Terms.{term_at}
use Rattle.rule.proofs.TermsSound.{term_sound_lem}
use Rattle.rule.proofs.OperandsSound as law
use Rattle.rule.proofs.operands.atom_sound.Goals as goal

pub returns-in-Pinned : goal.returns-in-Pinned
returns-in-Pinned c = λ n. law.shape_sound c.args.s.now c.args.at c.args.v n c.in-Pinned.is (law.pinned_tested c.args.s.now c.args.at c.args.v c.requires.0 c.requires.1 c.reading_sound-reading.ensures c.requires.2 n)

pub returns-in_default : goal.returns-in_default
returns-in_default c = λ n. law.terms_sound c.args.s.now c.args.at c.args.v n (law.left_comparison c.args.shape c.in_default.not-Window c.in_default.not-Pinned c.requires.3) (term_sound_lem c.args.v (term_at c.args.s.now c.args.at) c.constant_sound.ensures c.reading_sound-reading.ensures) c.term_sound.ensures
