-- `laid_out::writing::put_head` meets its contract. Assumes nothing.
use native.Mathlib.Omega.{arith}
use mathlib.Core.Path.{refl}
use mathlib.Core.List.{[], ◌++◌}
use lib.ListN.{length-append}
use Rattle.fields.specs.LittleEndian.{bytes_of}
use Rattle.fields.proofs.Widths.{length_bytes}
use Rattle.laid_out.proofs.Fronts.{front_none}
use Rattle.laid_out.proofs.LaidBytes.{field_more, as_head}
use Rattle.laid_out.proofs.writing.put_head.Goals as goal

pub returns : goal.returns
returns c = let s = c.args.t.now in
    let z = c.args.sizes in
    let v = bytes_of 2 z.channels in
    let p = bytes_of 2 z.start in
    let q = bytes_of 2 z.cycle in
    let one = field_more s [] _ _ z.channels 0 refl (omega arith) (front_none s) c.put_u16.ensures in
    let two = field_more s v _ _ z.start 2 (length_bytes 2 z.channels) (omega arith) one c.put_u16-2.ensures in
    let three = field_more s (v ++ p) _ _ z.cycle 4 (simp (length-append, length_bytes)) (omega arith) two c.put_u16-3.ensures in
    as_head s z.channels z.start z.cycle z.lead
    (field_more s ((v ++ p) ++ q) _ _ z.lead 6 (simp (length-append, length_bytes)) (omega arith) three c.put_u16-4.ensures)
