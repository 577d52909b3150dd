-- `table::bytes::mark_byte` meets its contract. Assumes nothing.
use mathlib.Core.Path.{refl}
use Rattle.table.specs.Layout.{mark_byte}
use Rattle.table.proofs.bytes.mark_byte.Goals as goal

pub returns : goal.returns
unfolding mark_byte
returns c = refl
