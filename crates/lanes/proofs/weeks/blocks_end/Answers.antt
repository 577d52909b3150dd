-- `lanes::weeks::blocks_end` meets its contract. Assumes nothing.
use native.Mathlib.Omega.{arith}
use Rattle.lanes.proofs.Windows.{same_first, same_block}
use mathlib.Core.Path.{ap}
use mathlib.Core.Bool.{not}
use Rattle.lanes.proofs.weeks.blocks_end.Goals as goal

pub loop-end-init : goal.loop-end-init
loop-end-init c = (omega arith, same_first _ _ _ _ _ _ c.requires.1 c.requires.2)

pub loop-end-preserved : goal.loop-end-preserved
loop-end-preserved c = (omega (arith, c.loop-end-test.true), same_block _ _ _ _ _ _ _ _ c.have_drifts.result c.loop-end.invariant.1 (omega arith) c.have_drifts.ensures (ap not c.if-not-have_drifts.false))
