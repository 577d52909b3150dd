-- `lanes::weeks::within_values` meets its contract. Assumes nothing.
use native.Mathlib.Omega.{arith}
use Rattle.lanes.proofs.Windows.{spaces_own, levels_say}
use Rattle.lanes.proofs.weeks.within_values.Goals as goal

pub within_stretch-requires : goal.within_stretch-requires
within_stretch-requires c = (omega arith, omega arith, spaces_own c.spacing_of-known.ensures)

pub returns : goal.returns
returns c = let s = c.args.stretch.now in levels_say s.values.now c.args.minutes s.x s.y s.table.now s.m s.count c.spacing_of-known.ensures c.within_stretch.ensures
