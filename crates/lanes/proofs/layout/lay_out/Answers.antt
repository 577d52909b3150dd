-- `lanes::layout::lay_out` meets its contract. Assumes nothing.
use mathlib.Core.Path.{refl}
use Rattle.lanes.proofs.Laying as law
use native.Mathlib.Omega.{arith}
use Rattle.lanes.proofs.layout.lay_out.Goals as goal

pub loop-channel-init : goal.loop-channel-init
loop-channel-init c = (omega arith, refl, law.laid_none _ _ _ _)
