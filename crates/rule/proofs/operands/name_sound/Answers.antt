-- `rule::operands::name_sound` meets its contract. Assumes nothing.
use mathlib.Core.Path.{refl}
use Rattle.rule.proofs.Padding as law
use Rattle.rule.proofs.operands.name_sound.Goals as goal

pub returns : goal.returns
returns c = rw (c.u16_at.ensures.0, law.more_zero c.args.s.now c.args.at c.requires.0 c.u16_at-2.ensures.0 c.requires.1) refl
