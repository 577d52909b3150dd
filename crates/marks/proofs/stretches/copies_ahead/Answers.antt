-- `marks::stretches::copies_ahead` meets its contract. Assumes nothing.
use Rattle.marks.proofs.Swept as law
use Rattle.marks.proofs.stretches.copies_ahead.Goals as goal

pub copies-requires : goal.copies-requires
copies-requires c = (law.but_last c.args.sizes.start c.requires.0 c.requires.1, law.but_first c.args.sizes.start c.requires.0 c.requires.2, c.requires.3)

pub copied-requires : goal.copied-requires
copied-requires c = (law.on_last c.args.sizes.start c.requires.0 c.requires.1, law.on_start c.args.sizes.start c.requires.0 c.requires.2)

pub returns : goal.returns
returns c = law.copies_ahead c.args.sizes.start c.args.sizes.cycle c.requires.0 c.args.table.now c.args.m c.args.a c.copies.ensures c.copied.ensures
