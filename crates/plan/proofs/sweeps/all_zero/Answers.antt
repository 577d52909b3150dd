-- `plan::sweeps::all_zero` meets its contract. Assumes nothing.
use Rattle.plan.proofs.Drifts.{zero_first, zero_next}
use Rattle.plan.proofs.sweeps.all_zero.Goals as goal

pub loop-k-init : goal.loop-k-init
loop-k-init c = zero_first _ _

pub loop-k-preserved : goal.loop-k-preserved
loop-k-preserved c = zero_next _ _ _ _ c.loop-k.invariant c.u32_at.ensures
