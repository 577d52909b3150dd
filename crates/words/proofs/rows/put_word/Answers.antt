-- `words::rows::put_word` meets its contract. Assumes nothing.
use native.Mathlib.Omega.{arith}
use Rattle.fields.specs.LittleEndian.{bytes_of}
use Rattle.fields.proofs.Widths.{length_bytes}
use Rattle.table.proofs.Stores.{stored_lent}
use Rattle.words.proofs.WordBytes.{word_put}
use Rattle.words.proofs.rows.put_word.Goals as goal

pub returns : goal.returns
returns c = word_put c.args.row c.args.word (omega arith) (stored_lent _ (bytes_of 4 _) _ _ (length_bytes 4 _) (omega (arith, c.requires.0, c.requires.1)) _ c.put_u32.ensures) (stored_lent _ (bytes_of 4 _) _ _ (length_bytes 4 _) (omega (arith, c.requires.0, c.requires.1)) _ c.put_u32-2.ensures)
