use Rattle.std.proofs.Common.{rules}
use Rattle.plan.specs.Positions.{last}
use Rattle.marks.specs.Parts.{witness_of_operator}
use Rattle.marks.proofs.Stepped.{two_named}
use Rattle.marks.proofs.witness.operator_witness.Goals as goal

pub two_witness-requires : goal.two_witness-requires
two_witness-requires c = (two_named c.args.table.now.parts c.requires.1 c.in-Two.is).1

pub returns-in-One : goal.returns-in-One
unfolding witness_of_operator
returns-in-One c = search rules

pub returns-in-Two : goal.returns-in-Two
unfolding witness_of_operator last
returns-in-Two c = search rules
