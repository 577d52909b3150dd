-- `laid_out::writing::put_row` meets its contract. Assumes nothing.
use Rattle.fields.proofs.ByteParts.{as_bytes}
use Rattle.laid_out.proofs.Fronts.{put_none, put_more}
use Rattle.laid_out.proofs.LaidBytes.{words, each_word, as_word}
use native.Mathlib.Omega.{arith}
use Rattle.laid_out.specs.inner.LaidNumbers.{laid_number}
use Rattle.laid_out.proofs.LastCycle.{few_passes}
use Rattle.laid_out.proofs.LaidNumbers.{few_laid_rows, number_fits}
use Rattle.laid_out.proofs.writing.put_row.Goals as goal

pub loop-channel-init : goal.loop-channel-init
loop-channel-init c = put_none c.args.t.now 4 c.args.plan.now.sizes.channels (words (laid_number c.args.plan.now.bytes.now c.args.n c.args.array) c.args.k)

pub laid_number-value-requires : goal.laid_number-value-requires
laid_number-value-requires c = (few_passes c.args.plan.now.fits c.args.n c.requires.0, omega (arith, few_laid_rows c.args.plan.now.fits c.args.n c.requires.0, c.requires.1), c.loop-channel-test.true)

pub pattern_of-requires : goal.pattern_of-requires
pattern_of-requires c = number_fits c.args.plan.now.fits c.args.n c.requires.0 (as_bytes _ c.args.plan.now.in_bytes) c.args.array c.args.k c.loop-channel.channel c.requires.1 c.loop-channel-test.true c.laid_number-value.ensures

pub loop-channel-preserved : goal.loop-channel-preserved
loop-channel-preserved c = let number = laid_number c.args.plan.now.bytes.now c.args.n c.args.array in
    put_more c.args.t.now 4 c.args.plan.now.sizes.channels (words number c.args.k) (each_word number c.args.k) (omega (arith, c.requires.2)) c.loop-channel-test.true (omega arith) c.loop-channel.invariant (as_word _ _ {z = number c.args.k c.loop-channel.channel} c.pattern_of.ensures c.laid_number-value.ensures c.put_u32.ensures)
