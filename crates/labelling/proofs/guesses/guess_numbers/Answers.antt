-- `labelling::guesses::guess_numbers` meets its contract. Assumes nothing.
use Rattle.lanes.proofs.Reaching.{reaches_row}
use Rattle.labelling.proofs.guesses.guess_numbers.Goals as goal

pub number-requires : goal.number-requires
number-requires g c = (reaches_row _ c.args.x _ _ c.requires.0.left c.loop-k-test.true, c.requires.0.few)

pub number-requires-in-loop-k : goal.number-requires-in-loop-k
number-requires-in-loop-k g c = (reaches_row _ c.args.y _ _ c.requires.0.right c.loop-k-test.true, c.requires.0.few)
