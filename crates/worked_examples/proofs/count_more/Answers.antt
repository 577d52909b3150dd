use Rattle.worked_examples.proofs.Counted.{counted_more}
use Rattle.worked_examples.proofs.More.{more_said}
use Rattle.worked_examples.proofs.count_more.Goals as goal

pub returns : goal.returns
returns c = (counted_more, more_said)
