use Rattle.rule.proofs.OperandsWritten as law
use Rattle.rule.proofs.operands.put_two.Goals as goal

pub returns : goal.returns
returns c = law.two_names c.args.t.now c.requires.0
    c.put_one.new.t c.put_u16.new.t c.args.a
    c.args.b c.put_one.ensures
    c.put_u16.ensures
