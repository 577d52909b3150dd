-- `maker::guesses::guess_over` meets its contract. Assumes nothing.
use Rattle.inputs.proofs.Parts.{taken_fitting}
use Rattle.labelling.proofs.Guessing.{as_long}
use Rattle.maker.proofs.guesses.guess_over.Goals as goal

pub guess_part-requires : goal.guess_part-requires
guess_part-requires c = (c.requires.0, as_long c.loop-i.invariant c.requires.1, c.loop-i-test.true, taken_fitting _ _ c.args.inputs.now.ready _ c.loop-i-test.true c.take.ensures.is_take c.in-Ok.is c.view_of-view.ensures)
