-- `rule::terms::reading_sound` meets its contract. Assumes nothing.
use Rattle.rule.proofs.TermsSound as law
use Rattle.rule.proofs.terms.reading_sound.Goals as goal

pub returns : goal.returns
returns c = law.reading_sound_lem c.args.s.now c.args.at c.args.v c.channel_on-channel.ensures
