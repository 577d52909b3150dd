use Rattle.rule.proofs.OperandsSound as law
use Rattle.rule.proofs.operands.operand_sound.Goals as goal

pub returns-in-NamesOne : goal.returns-in-NamesOne
returns-in-NamesOne c = law.one_sound c.args.s.now c.args.at c.args.v c.args.n c.in-NamesOne.is c.name_sound.ensures

pub returns-in-NamesTwo : goal.returns-in-NamesTwo
returns-in-NamesTwo c = law.two_sound c.args.s.now c.args.at c.args.v c.args.n c.in-NamesTwo.is c.names_sound.ensures
