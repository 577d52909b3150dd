-- `plan::layout::array_length` meets its contract. Assumes nothing.
use Rattle.plan.specs.Layout.{array_length}
use Rattle.plan.specs.inner.Sizes.{all_stored}
use Rattle.plan.proofs.Arrays.{array_le}
use native.Mathlib.Omega.{arith}
use Rattle.plan.proofs.layout.array_length.Goals as goal

pub returns : goal.returns
unfolding array_length
returns c = omega (arith, array_le c.args.sizes.channels (all_stored c.args.sizes) c.requires.0 c.requires.1)
