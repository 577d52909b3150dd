-- `table::fills::fill_on` meets its contract. Assumes nothing.
use Rattle.table.proofs.Filling.{on_first, on_next}
use Rattle.table.proofs.fills.fill_on.Goals as goal

pub loop-k-init : goal.loop-k-init
loop-k-init c = let args = c.args in
    on_first args.table.now args.m args.a args.b args.count args.opposite

pub loop-k-preserved : goal.loop-k-preserved
loop-k-preserved c = let args = c.args in
    let pre = c.requires in
    on_next args.table.now args.m args.a args.b args.count args.opposite pre.0 pre.1 pre.2 c.loop-k-test.true c.loop-k.invariant c.step_at-mark.ensures c.byte.ensures
