-- `laid_out::numbers::laid_drift` meets its contract. Assumes nothing.
use native.Mathlib.Omega.{arith}
use Rattle.plan.proofs.Fits.{reached}
use Rattle.laid_out.proofs.LaidNumbers.{in_reach, no_drift, later_lifted}
use Rattle.laid_out.proofs.numbers.laid_drift.Goals as goal

pub returns-then-k-sizes : goal.returns-then-k-sizes
returns-then-k-sizes c = no_drift c.args.plan.now.fits c.args.k c.args.channel c.args.n c.if-k-sizes.true

pub drift_at-requires : goal.drift_at-requires
drift_at-requires c = let there = reached c.args.plan.now.fits _ (in_reach c.args.plan.now.fits c.args.k c.args.channel c.requires.1) in
    (c.requires.2, omega (arith, c.row_of.ensures, there.0))

pub returns : goal.returns
returns c = later_lifted c.args.plan.now.fits c.args.k c.args.channel c.args.n c.drift_at.result c.if-k-sizes.false c.row_of.ensures c.drift_at.ensures.0
