use Rattle.worked_examples.proofs.Counted.{counted}
use Rattle.worked_examples.proofs.Examples.{all_said}
use Rattle.worked_examples.proofs.count.Goals as goal

pub returns : goal.returns
returns c = λ lo hi. (counted lo hi, all_said lo hi)
