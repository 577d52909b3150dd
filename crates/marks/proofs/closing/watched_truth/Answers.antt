use Rattle.marks.proofs.Stepped as law
use Rattle.marks.proofs.closing.watched_truth.Goals as goal

pub mark_at-requires : goal.mark_at-requires
mark_at-requires c = (law.one_named c.args.table.now.parts c.requires.0 c.in-One.is, c.requires.1)
