-- `settling::operators::seen_round` meets its contract. Assumes nothing.
use native.Mathlib.Omega.{arith}
use Rattle.settling.proofs.Stepping.{round_next, round_all}
use Rattle.settling.proofs.operators.seen_round.Goals as goal

pub step_on-truth-requires : goal.step_on-truth-requires
step_on-truth-requires c = (c.requires.0, c.requires.1, omega (arith, c.loop-row.invariant.few, c.loop-row-test.true, c.requires.3))

pub watched_truth-beside-requires-in-loop-row : goal.watched_truth-beside-requires-in-loop-row
watched_truth-beside-requires-in-loop-row c = (c.requires.0, c.requires.1, omega (arith, c.loop-row.invariant.few, c.loop-row-test.true, c.requires.3))

pub loop-row-preserved : goal.loop-row-preserved
loop-row-preserved c = round_next _ _ _ _ c.loop-row.invariant c.loop-row-test.true c.step_on-truth.ensures c.watched_truth-beside-in-loop-row.ensures

pub returns : goal.returns
returns c = round_all _ _ _ _ c.requires.2 c.loop-row.invariant c.loop-row-test.false
