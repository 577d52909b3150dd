-- `lanes::weeks::within_lines` meets its contract. Assumes nothing.
use native.Mathlib.Omega.{arith}
use Rattle.table.proofs.AllBelow.{sweep_first}
use Rattle.lanes.proofs.Reaching.{swept_on}
use Rattle.lanes.proofs.Windows.{spaces_own, stretch_says}
use Rattle.lanes.proofs.weeks.within_lines.Goals as goal

pub loop-k-init : goal.loop-k-init
loop-k-init c = (omega arith, sweep_first _)

pub within_stretch-all-requires : goal.within_stretch-all-requires
within_stretch-all-requires c = let on = c.stretch_end-end.ensures.1.on in (omega arith, c.stretch_end-end.ensures.0, spaces_own c.spacing_of-known.ensures)

pub loop-k-preserved : goal.loop-k-preserved
loop-k-preserved c =
    let l = c.args.lines.now in
    let s = l.stretch in
    let on = c.stretch_end-end.ensures.1.on in
    (c.stretch_end-end.ensures.0, swept_on _ _ _ (omega arith) c.loop-k.invariant.1 (stretch_says s.values.now l.drifts.now c.args.minutes s.x s.y s.table.now s.m _ _ c.stretch_end-end.ensures.1 c.spacing_of-known.ensures c.within_stretch-all.ensures))
