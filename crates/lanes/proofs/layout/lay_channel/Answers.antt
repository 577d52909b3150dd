-- `lanes::layout::lay_channel` meets its contract. Assumes nothing.
use Rattle.plan.specs.inner.Sizes.{all_stored}
use Prim.Native.Nat.{◌+◌, ◌*◌}
use mathlib.Core.Path.{◌∙◌}
use Rattle.fields.specs.LittleEndian.{bytes_of}
use Rattle.fields.proofs.Widths.{length_bytes}
use Rattle.table.proofs.Stores.{stored_lent}
use Rattle.lanes.proofs.Laying as law
use native.Mathlib.Omega.{arith}
use Rattle.lanes.proofs.layout.lay_channel.Goals as goal

pub overflow_mul-cell_of : goal.overflow_mul-cell_of
overflow_mul-cell_of c =
    let there = law.number_there _ _ _ c.requires.0 c.args.channel c.loop-k.k c.requires.1 c.loop-k-test.true in
    omega arith

pub u32_at-x-requires : goal.u32_at-x-requires
u32_at-x-requires c =
    let there = law.number_there _ _ _ c.requires.0 c.args.channel c.loop-k.k c.requires.1 c.loop-k-test.true in
    omega arith

pub slice_bounds-put_u32-count : goal.slice_bounds-put_u32-count
slice_bounds-put_u32-count c =
    let there = law.place_there _ _ _ c.requires.0 c.args.channel c.loop-k.k c.requires.1 c.loop-k-test.true in
    let long = c.loop-k.invariant.1 in
    omega arith

pub slice_bounds-put_u32-start : goal.slice_bounds-put_u32-start
slice_bounds-put_u32-start c =
    let there = law.place_there _ _ _ c.requires.0 c.args.channel c.loop-k.k c.requires.1 c.loop-k-test.true in
    let long = c.loop-k.invariant.1 in
    omega arith

pub put_u32-requires : goal.put_u32-requires
put_u32-requires c =
    let there = law.place_there _ _ _ c.requires.0 c.args.channel c.loop-k.k c.requires.1 c.loop-k-test.true in
    let long = c.loop-k.invariant.1 in
    omega arith

pub loop-k-preserved : goal.loop-k-preserved
loop-k-preserved c =
    let there = law.place_there _ _ _ c.requires.0 c.args.channel c.loop-k.k c.requires.1 c.loop-k-test.true in
    let long = c.loop-k.invariant.1 in
    let stored = stored_lent c.loop-k.lanes (bytes_of 4 c.u32_at-x.result) (4 * (c.args.channel * all_stored c.args.sizes + c.loop-k.k)) 4 (length_bytes 4 c.u32_at-x.result) (omega arith) _ c.put_u32.ensures in
    (omega arith, stored.long ∙ long, law.laid_more c.args.array.now c.args.sizes.channels (all_stored c.args.sizes) c.args.channel c.loop-k.k c.u32_at-x.result c.loop-k-test.true c.loop-k.invariant.2 (law.cell_number c.args.array.now _ _ c.u32_at-x.ensures c.cell_of.ensures) c.u32_at-x.type_inv stored)
