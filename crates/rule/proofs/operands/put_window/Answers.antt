-- `rule::operands::put_window` meets its contract. Assumes nothing.
use Rattle.rule.proofs.OperandsWritten as law
use Rattle.rule.proofs.operands.put_window.Goals as goal

pub returns : goal.returns
returns c = law.window_ends c.args.t.now c.requires.0 c.put_term.new.t c.put_ends.new.t c.args.reading c.args.from c.args.to c.put_term.ensures.0 c.put_ends.ensures
