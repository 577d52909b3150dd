-- `settling::operators::try_operator` meets its contract. Assumes nothing.
use Rattle.marks.proofs.Stepped as law
use Rattle.settling.proofs.operators.try_operator.Goals as goal

pub try_one-requires : goal.try_one-requires
try_one-requires c = (c.requires.0, c.requires.1, law.one_named c.args.i c.requires.2 c.in-One.is, c.requires.3, c.requires.4)

pub try_two-requires : goal.try_two-requires
try_two-requires c = (c.requires.0, c.requires.1, (law.two_named c.args.i c.requires.2 c.in-Two.is).0, (law.two_named c.args.i c.requires.2 c.in-Two.is).1, c.requires.3, c.requires.4)
