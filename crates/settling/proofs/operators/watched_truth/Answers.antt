-- `settling::operators::watched_truth` meets its contract. Assumes nothing.
use Rattle.words.specs.inner.Words.{most_parts}
use Rattle.marks.proofs.Stepped as law
use Rattle.settling.proofs.operators.watched_truth.Goals as goal

pub mark_at-requires : goal.mark_at-requires
mark_at-requires c = (c.requires.0, law.one_named most_parts c.requires.1 c.in-One.is, c.requires.2)
