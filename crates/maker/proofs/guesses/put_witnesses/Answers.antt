-- `maker::guesses::put_witnesses` meets its contract. Assumes nothing.
use Rattle.inputs.proofs.Parts.{always_taken, taken_fitting}
use Rattle.labelling.proofs.Guessing.{as_long}
use Rattle.maker.proofs.Guessed.{witnessed_next}
use Rattle.maker.proofs.guesses.put_witnesses.Goals as goal

pub returns-in_default : goal.returns-in_default
returns-in_default c = absurd (always_taken _ _ c.args.inputs.now.ready _ c.loop-i-test.true c.take.ensures.is_take c.in_default.is)

pub lowest_witness-witness-requires : goal.lowest_witness-witness-requires
lowest_witness-witness-requires c = (as_long c.loop-i.invariant.long c.requires, c.loop-i-test.true, taken_fitting _ _ c.args.inputs.now.ready _ c.loop-i-test.true c.take.ensures.is_take c.in-Ok.is c.view_of-view.ensures)

pub loop-i-preserved : goal.loop-i-preserved
loop-i-preserved c = (witnessed_next _ _ c.args.inputs.now.ready _ c.loop-i-test.true c.take.ensures.is_take c.in-Ok.is c.view_of-view.ensures c.loop-i.invariant c.lowest_witness-witness.ensures.0 c.put_number.ensures)
