-- `lanes::rows::landed` meets its contract. Assumes nothing.
use native.Mathlib.Omega.{arith}
use mathlib.Core.Path.{◌∙◌}
use Rattle.lanes.proofs.Still as law
use Rattle.lanes.proofs.rows.landed.Goals as goal

pub lane_of-lane-requires : goal.lane_of-lane-requires
lane_of-lane-requires c = ((law.few_stored c.requires.0).0, (law.few_stored c.requires.0).1, law.few_term c.requires.0)

pub overflow_add-sizes-3 : goal.overflow_add-sizes-3
overflow_add-sizes-3 c = omega (arith, law.few_stored c.requires.0, law.row_stored c.requires.0 c.row_of.ensures)

pub number-requires : goal.number-requires
number-requires c = (law.lane_reaches c.requires.0 c.args.values.now _ c.lane_of-lane.ensures.0 c.row_of.ensures c.requires.1, c.requires.1.1)

pub returns : goal.returns
returns c = c.number.ensures.0 ∙ law.landed_is c.requires.0 c.args.values.now _ c.lane_of-lane.ensures.0 c.row_of.ensures
