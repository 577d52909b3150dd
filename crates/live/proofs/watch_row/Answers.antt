use Rattle.live.specs.State.{empty_watch}
use Rattle.live.proofs.Filling.{fill_four}
use Rattle.live.proofs.CallLaws as law
use native.Mathlib.Omega.{arith}
use Rattle.live.proofs.watch_row.Goals as goal

pub loop-place-preserved : goal.loop-place-preserved
loop-place-preserved c =
    law.one_after c.args.readings.now c.args.rules.now c.args.watches.now _ _ _ (omega arith) c.loop-place.invariant c.loop-place-test.true c.watch_after.ensures

pub returns : goal.returns
returns c = fill_four empty_watch c.args.watches.now _ _ _ c.loop-place.invariant (omega arith) (omega arith)
