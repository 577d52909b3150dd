use lib.ListN.{replicate}
use mathlib.Core.Path.{refl}
use Rattle.live.specs.State.{kept_top}
use Rattle.live.proofs.Filling.{fill_all}
use native.Mathlib.Omega.{arith}
use Rattle.live.proofs.kept_tops.Goals as goal

pub returns : goal.returns
returns c = fill_all (replicate 8 0) (kept_top c.args.tops.now c.args.v) _ _ c.loop-channel.invariant 8 refl (omega arith)
