-- `table::bytes::witness_at` meets its contract. Assumes nothing.
use Rattle.table.specs.Layout.{witness_of}
use Rattle.table.proofs.bytes.witness_at.Goals as goal

pub returns : goal.returns
unfolding witness_of
returns c = c.u16_at.ensures.0
