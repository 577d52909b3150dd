-- `lanes::rows::still_agrees` meets its contract. Assumes nothing.
use Rattle.plan.proofs.Rows.{row_lt}
use Rattle.lanes.proofs.Still as law
use Rattle.lanes.proofs.rows.still_agrees.Goals as goal

pub landed-a-requires : goal.landed-a-requires
landed-a-requires c = (law.left_lands c.requires.0 _ c.requires.1 c.requires.2, c.requires.4)

pub landed-b-requires : goal.landed-b-requires
landed-b-requires c = (law.right_lands c.requires.0 _ c.requires.1 c.requires.3, c.requires.4)

pub mark_at-mark-requires : goal.mark_at-mark-requires
mark_at-mark-requires c = (c.requires.0.sized, c.requires.0.present, rw c.row_of.ensures (row_lt c.args.part.sizes.start c.args.part.sizes.cycle c.requires.0.a_cycle _))
