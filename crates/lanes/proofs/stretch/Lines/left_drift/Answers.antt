-- `lanes::stretch::Lines::left_drift` meets its contract. Assumes nothing.
use Rattle.lanes.proofs.Reaching.{reaches_row}
use Rattle.lanes.proofs.stretch.Lines.left_drift.Goals as goal

pub drift-requires : goal.drift-requires
drift-requires c = let l = c.args.self.now in (reaches_row l.drifts.now l.stretch.x l.stretch.count c.args.k l.in_drifts.left c.requires, l.in_drifts.few)
