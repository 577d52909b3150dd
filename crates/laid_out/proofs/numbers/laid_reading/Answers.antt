-- `laid_out::numbers::laid_reading` meets its contract. Assumes nothing.
use native.Mathlib.Omega.{arith}
use Rattle.plan.proofs.Fits.{reached}
use Rattle.laid_out.proofs.LaidNumbers.{lead_value, in_reach, later_value}
use Rattle.laid_out.proofs.numbers.laid_reading.Goals as goal

pub returns-then-k-sizes : goal.returns-then-k-sizes
returns-then-k-sizes c = lead_value c.args.plan.now.fits c.args.k c.args.channel c.if-k-sizes.true c.stored_number.ensures.0

pub number_at-requires : goal.number_at-requires
number_at-requires c = let there = reached c.args.plan.now.fits _ (in_reach c.args.plan.now.fits c.args.k c.args.channel c.requires.0) in
    (c.requires.1, omega (arith, c.row_of.ensures, there.0), omega (arith, c.pass_of.ensures, there.1))

pub returns : goal.returns
returns c = later_value c.args.plan.now.fits c.args.k c.args.channel c.if-k-sizes.false c.row_of.ensures c.pass_of.ensures c.number_at.ensures.0
