use Prim.Native.Nat.{ℕ}
use mathlib.Core.List.{List, ◌++◌}
use mathlib.Core.Path.{◌∙◌, ap}
use lib.ListN.{drop}
use Rattle.fields.specs.LittleEndian.{bytes_of}
use Rattle.fields.proofs.put_u16.Goals as goal

pub returns : goal.returns
unfolding bytes_of
returns c = ap (λ (l : List ℕ). l ++ drop 2 c.args.t.now) (c.copy_from_slice.ensures.after ∙ c.to_le_bytes.ensures)
