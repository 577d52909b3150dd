-- `table::fills::swept_back` meets its contract. Assumes nothing.
use Rattle.table.proofs.Filling.{swept_first, swept_next}
use Rattle.table.proofs.fills.swept_back.Goals as goal

pub loop-k-init : goal.loop-k-init
loop-k-init c = let args = c.args in
    swept_first args.table.now args.a args.b args.from args.count args.opposite

pub loop-k-preserved : goal.loop-k-preserved
loop-k-preserved c = let args = c.args in
    swept_next args.table.now args.a args.b args.from args.count args.opposite c.loop-k-test.true c.loop-k.invariant c.step_at-mark.ensures
