-- `lanes::layout::lay_array` meets its contract. Assumes nothing.
use native.Mathlib.Omega.{arith}
use Rattle.lanes.proofs.Laying as law
use Rattle.lanes.proofs.layout.lay_array.Goals as goal

pub lay_out-requires : goal.lay_out-requires
lay_out-requires c = law.part_room c.args.plan.now.fits c.requires.0 _ _ (omega (arith, c.array_length.ensures)) (omega (arith, c.array_length.ensures, c.requires.1))
