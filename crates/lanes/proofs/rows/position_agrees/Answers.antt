-- `lanes::rows::position_agrees` meets its contract. Assumes nothing.
use Rattle.plan.proofs.Rows.{row_lt}
use Rattle.lanes.proofs.rows.position_agrees.Goals as goal

pub mark_at-mark-requires : goal.mark_at-mark-requires
mark_at-mark-requires c = (c.requires.1, c.requires.2, rw c.row_of.ensures (row_lt c.args.part.sizes.start c.args.part.sizes.cycle c.requires.0.a_cycle _))
