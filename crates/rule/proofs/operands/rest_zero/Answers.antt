use Rattle.rule.proofs.Padding as law
use Rattle.rule.proofs.operands.rest_zero.Goals as goal

pub returns : goal.returns
returns c = law.rest_zero c.args.s.now c.args.at c.requires c.u32_at.ensures c.u32_at-2.ensures
