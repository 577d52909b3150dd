use mathlib.Core.Path.{◌∙◌}
use Rattle.rule.proofs.OperandsWritten as law
use Rattle.rule.proofs.operands.put_one.Goals as goal

pub returns : goal.returns
returns c = c.put_u16.ensures ∙ law.one_name c.args.t.now
    c.requires.0 c.clear.new.t
    c.args.a c.clear.ensures
