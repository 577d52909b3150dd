use Rattle.rule.proofs.TermsSound as law
use Rattle.rule.proofs.terms.constant_sound.Goals as goal

pub returns : goal.returns
returns c = law.constant_sound_lem c.args.s.now c.args.at
