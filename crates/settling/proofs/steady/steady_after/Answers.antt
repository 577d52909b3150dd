-- `settling::steady::steady_after` meets its contract. Assumes nothing.
use native.Mathlib.Omega.{arith}
use Rattle.settling.proofs.Steadying as law
use Rattle.settling.proofs.steady.steady_after.Goals as goal

pub steady-requires : goal.steady-requires
steady-requires c = (c.requires.0, omega arith, (law.few_between c.args.plan.now.bytes.now c.args.plan.now.sizes c.args.comparison c.args.passes c.args.plan.now.fits c.loop-low.invariant c.loop-low-test.true c.min-ahead.ensures).2)

pub loop-low-preserved : goal.loop-low-preserved
loop-low-preserved c = law.from_below c.args.plan.now.bytes.now c.args.plan.now.sizes c.args.comparison c.args.passes c.args.plan.now.fits c.loop-low.invariant c.loop-low-test.true c.min-ahead.ensures c.requires.0 c.steady.ensures c.if-steady.false
