-- `table::bytes::mark_at` meets its contract. Assumes nothing.
use mathlib.Core.Path.{ap}
use lib.Dec.{eqb}
use Rattle.table.specs.Layout.{marked}
use Rattle.table.proofs.bytes.mark_at.Goals as goal

pub returns : goal.returns
unfolding marked
returns c = ap (λ x. eqb x 1) c.mark_byte.ensures
