-- `marks::stretches::steps_ahead` meets its contract. Assumes nothing.
use Rattle.marks.proofs.Swept as law
use Rattle.marks.proofs.stretches.steps_ahead.Goals as goal

pub steps-requires : goal.steps-requires
steps-requires c = (law.but_last c.args.sizes.start c.requires.0 c.requires.1, law.but_last c.args.sizes.start c.requires.0 c.requires.2, law.but_last c.args.sizes.start c.requires.0 c.requires.3, law.but_first c.args.sizes.start c.requires.0 c.requires.1, c.requires.4)

pub stepped-requires : goal.stepped-requires
stepped-requires c = (law.on_last c.args.sizes.start c.requires.0 c.requires.1, law.on_last c.args.sizes.start c.requires.0 c.requires.2, law.on_last c.args.sizes.start c.requires.0 c.requires.3, law.on_start c.args.sizes.start c.requires.0 c.requires.1)

pub returns : goal.returns
returns c = law.steps_ahead c.args.sizes.start c.args.sizes.cycle c.requires.0 c.args.table.now c.args.m c.args.a c.args.b c.args.opposite c.steps.ensures c.stepped.ensures
