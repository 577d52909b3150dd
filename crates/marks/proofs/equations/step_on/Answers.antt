use Rattle.marks.proofs.Stepped as law
use Rattle.marks.proofs.equations.step_on.Goals as goal

pub mark_at-requires : goal.mark_at-requires
mark_at-requires c = (law.one_named c.args.table.now.parts c.requires.0 c.in-One.is, c.requires.1)

pub mark_at-requires-in-Two : goal.mark_at-requires-in-Two
mark_at-requires-in-Two c = ((law.two_named c.args.table.now.parts c.requires.0 c.in-Two.is).0, c.requires.1)

pub mark_at-requires-in-Two-2 : goal.mark_at-requires-in-Two-2
mark_at-requires-in-Two-2 c = ((law.two_named c.args.table.now.parts c.requires.0 c.in-Two.is).1, c.requires.1)
