use Rattle.rule.proofs.OperandsSound as law
use Rattle.rule.proofs.Padding.{last_zero}
use Rattle.rule.proofs.operands.window_sound.Goals as goal

pub returns : goal.returns
returns c = λ v n e. law.window_tested c.args.s.now c.args.at v e c.window_fits.ensures c.u16_at-from.ensures.0 c.u16_at-to.ensures.0 (last_zero c.args.s.now c.args.at c.requires c.u16_at.ensures.0) n
