-- `marks::stretches::operator_clear` meets its contract. Assumes nothing.
use Rattle.marks.proofs.Stepped.{one_named, two_named}
use Rattle.marks.proofs.stretches.operator_clear.Goals as goal

pub one_clear-requires : goal.one_clear-requires
one_clear-requires c = (c.requires.0, c.requires.1, one_named c.args.table.now.parts c.requires.2 c.in-One.is)

pub two_clear-requires : goal.two_clear-requires
two_clear-requires c = let named = two_named c.args.table.now.parts c.requires.2 c.in-Two.is in (c.requires.0, c.requires.1, named.0, named.1)
