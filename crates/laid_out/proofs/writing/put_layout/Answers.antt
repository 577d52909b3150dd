-- `laid_out::writing::put_layout` meets its contract. Assumes nothing.
use mathlib.Core.Path.{refl}
use native.Mathlib.Omega.{arith}
use Rattle.laid_out.proofs.LastCycle.{few_passes}
use Rattle.laid_out.proofs.LaidBytes.{laid_small, stored_is, array_few, tops_behind, readings_behind, drifts_behind}
use Rattle.laid_out.proofs.writing.put_layout.Goals as goal

pub laid_sizes-laid-requires : goal.laid_sizes-laid-requires
laid_sizes-laid-requires c = (few_passes c.args.plan.now.fits c.args.n c.requires.0, c.args.plan.now.fits.few_rows)

pub overflow_add-stored : goal.overflow_add-stored
overflow_add-stored c = omega (arith, laid_small c.args.plan.now.fits c.args.n c.requires.0 c.laid_sizes-laid.ensures)

pub overflow_add-stored-2 : goal.overflow_add-stored-2
overflow_add-stored-2 c = omega (arith, laid_small c.args.plan.now.fits c.args.n c.requires.0 c.laid_sizes-laid.ensures)

pub put_head-requires : goal.put_head-requires
put_head-requires c = omega (arith, laid_small c.args.plan.now.fits c.args.n c.requires.0 c.laid_sizes-laid.ensures, c.requires.1)

pub put_array-requires : goal.put_array-requires
put_array-requires c = (c.requires.0, stored_is c.args.plan.now.fits c.args.n c.requires.0 c.laid_sizes-laid.ensures, omega (arith, array_few c.args.plan.now.fits c.args.n c.requires.0 c.laid_sizes-laid.ensures, c.requires.1, c.args.plan.now.fits.few_channels), omega (arith, c.requires.1))

pub drifts_start-requires : goal.drifts_start-requires
drifts_start-requires c = omega (arith, laid_small c.args.plan.now.fits c.args.n c.requires.0 c.laid_sizes-laid.ensures)

pub put_array-requires-2 : goal.put_array-requires-2
put_array-requires-2 c = (c.requires.0, stored_is c.args.plan.now.fits c.args.n c.requires.0 c.laid_sizes-laid.ensures, omega (arith, array_few c.args.plan.now.fits c.args.n c.requires.0 c.laid_sizes-laid.ensures, c.requires.1, c.drifts_start.ensures.1), omega (arith, c.requires.1))

pub returns : goal.returns
returns c = let tops = tops_behind c.args.plan.now.fits c.args.n c.requires.0 c.laid_sizes-laid.ensures c.args.buffer.now _ _ c.requires.1 _ refl c.put_head.ensures c.put_tops.ensures in let readings = readings_behind c.args.plan.now.fits c.args.n c.requires.0 c.laid_sizes-laid.ensures c.args.buffer.now _ _ c.requires.1 _ c.head_length.ensures tops c.put_array.ensures in drifts_behind c.args.plan.now.fits c.args.n c.requires.0 c.laid_sizes-laid.ensures c.args.buffer.now _ _ c.requires.1 _ c.drifts_start.ensures.0 readings c.put_array-2.ensures
