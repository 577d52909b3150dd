-- `settling::operators::mark_back` meets its contract. Assumes nothing.
use native.Mathlib.Omega.{arith}
use mathlib.Core.Path.{◌∙◌}
use Rattle.settling.proofs.Stepping.{names_few, back_next}
use Rattle.settling.proofs.operators.mark_back.Goals as goal

pub step_on-truth-requires : goal.step_on-truth-requires
step_on-truth-requires c = (c.loop-row.invariant.done.long ∙ c.requires.0, names_few c.args.operator c.requires.1 c.requires.2, omega (arith, c.loop-row.invariant.few, c.loop-row-test.true, c.requires.4))

pub watched_truth-beside-requires : goal.watched_truth-beside-requires
watched_truth-beside-requires c = (c.loop-row.invariant.done.long ∙ c.requires.0, names_few c.args.operator c.requires.1 c.requires.2, omega (arith, c.loop-row.invariant.few, c.loop-row-test.true, c.requires.4))

pub loop-row-preserved : goal.loop-row-preserved
loop-row-preserved c = back_next _ _ _ _ _ c.requires.2 c.loop-row.invariant c.loop-row-test.true c.step_on-truth.ensures c.watched_truth-beside.ensures c.put_mark.ensures
