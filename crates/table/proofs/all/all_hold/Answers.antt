-- `table::all::all_hold` meets its contract. Assumes nothing.
use Rattle.table.proofs.AllBelow.{sweep_first, sweep_next}
use Rattle.table.proofs.all.all_hold.Goals as goal

pub loop-k-init : goal.loop-k-init
loop-k-init g c = λ test same. sweep_first test

pub loop-k-preserved : goal.loop-k-preserved
loop-k-preserved g c = λ test same. sweep_next test _ (c.loop-k.invariant test same) (same _ _ c.loop-k-test.true c.holds-all.ensures)
