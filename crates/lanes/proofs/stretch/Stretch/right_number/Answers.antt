-- `lanes::stretch::Stretch::right_number` meets its contract. Assumes nothing.
use Rattle.lanes.proofs.Reaching.{reaches_row}
use Rattle.lanes.proofs.stretch.Stretch.right_number.Goals as goal

pub number-requires : goal.number-requires
number-requires c = let s = c.args.self.now in (reaches_row s.values.now s.y s.count c.args.k s.in_values.right c.requires, s.in_values.few)
