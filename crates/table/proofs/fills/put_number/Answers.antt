-- `table::fills::put_number` meets its contract. Assumes nothing.
use Rattle.fields.specs.LittleEndian.{bytes_of}
use Rattle.fields.proofs.Widths.{length_bytes}
use Rattle.table.proofs.Stores.{stored_lent}
use Rattle.table.proofs.fills.put_number.Goals as goal

pub returns : goal.returns
returns c = stored_lent _ (bytes_of 2 c.args.x) _ _ (length_bytes 2 c.args.x) c.requires.0 _ c.put_u16.ensures
