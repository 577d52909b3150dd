use mathlib.Core.Path.{refl}
use Rattle.live.specs.Kept.{kept}
use native.Mathlib.Omega.{arith}
use Rattle.live.proofs.readings.kept_number.Goals as goal

-- src/readings.rt:18:1
pub returns : goal.returns
unfolding kept
returns c = (refl, omega arith)
