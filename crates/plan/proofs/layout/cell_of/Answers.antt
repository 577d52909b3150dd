-- `plan::layout::cell_of` meets its contract. Assumes nothing.
use mathlib.Core.Path.{refl}
use Rattle.plan.specs.Layout.{cell}
use Rattle.plan.proofs.layout.cell_of.Goals as goal

pub returns : goal.returns
unfolding cell
returns c = refl
