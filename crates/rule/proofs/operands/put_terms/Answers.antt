use Rattle.rule.proofs.OperandsWritten as law
use Rattle.rule.proofs.operands.put_terms.Goals as goal

pub returns : goal.returns
returns c = (
  law.two_terms c.args.t.now c.requires.0
      c.put_term.new.t c.put_term-2.new.t c.args.left
      c.args.right c.put_term.ensures.0
      c.put_term-2.ensures.0,
  law.terms_word _ _ c.put_term.ensures.1 c.put_term-2.ensures.1,
)
