use mathlib.Core.Path.{ap}
use Prim.Native.Nat.{ℕ, ◌%◌}
use lib.ListN.{get_or}
use Rattle.live.specs.Truths.{named}
use Rattle.live.proofs.truths.byte_named.Goals as goal

-- src/truths.rt:94:1
pub returns : goal.returns
unfolding named
returns c = ap (λ (k : ℕ). get_or c.args.truths.now (k % 64) 0) c.u16_at.ensures.0
