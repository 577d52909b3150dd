-- `lanes::stretch::Stretch::left_number` meets its contract. Assumes nothing.
use Rattle.lanes.proofs.Reaching.{reaches_row}
use Rattle.lanes.proofs.stretch.Stretch.left_number.Goals as goal

pub number-requires : goal.number-requires
number-requires c = let s = c.args.self.now in (reaches_row s.values.now s.x s.count c.args.k s.in_values.left c.requires, s.in_values.few)
