-- `laid_out::writing::put_array` meets its contract. Assumes nothing.
use Prim.Native.Nat.{◌*◌}
use native.Mathlib.Omega.{arith}
use Rattle.plan.proofs.PlanBytes.{row_bytes, length_row}
use Rattle.laid_out.specs.inner.LaidNumbers.{laid_number}
use Rattle.laid_out.proofs.Fronts.{lent_long, put_none, put_long, put_more, put_all}
use Rattle.laid_out.proofs.LaidBytes.{as_array, rows_room, row_room}
use Rattle.laid_out.proofs.writing.put_array.Goals as goal

pub loop-k-init : goal.loop-k-init
loop-k-init c = put_none c.args.t.now (c.args.plan.now.sizes.channels * 4) c.args.stored (row_bytes c.args.plan.now.sizes.channels (laid_number c.args.plan.now.bytes.now c.args.n c.args.array))

pub overflow_mul-v : goal.overflow_mul-v
overflow_mul-v c = omega (arith, row_room c.args.plan.now.sizes.channels c.args.stored c.loop-k.k _ c.requires.2 c.loop-k-test.true, c.requires.3)

pub overflow_mul-v-in-loop-k : goal.overflow_mul-v-in-loop-k
overflow_mul-v-in-loop-k c = omega (arith, row_room c.args.plan.now.sizes.channels c.args.stored c.loop-k.k _ c.requires.2 c.loop-k-test.true, c.requires.3)

pub slice_bounds-put_row-count : goal.slice_bounds-put_row-count
slice_bounds-put_row-count c = let number = laid_number c.args.plan.now.bytes.now c.args.n c.args.array in
    let v = c.args.plan.now.sizes.channels in
    let long = put_long c.args.t.now (v * 4) c.args.stored (row_bytes v number) (length_row v number) (rows_room v c.args.stored _ c.requires.2) c.loop-k.invariant in
    omega (arith, row_room v c.args.stored c.loop-k.k _ c.requires.2 c.loop-k-test.true)

pub slice_bounds-put_row-start : goal.slice_bounds-put_row-start
slice_bounds-put_row-start c = let number = laid_number c.args.plan.now.bytes.now c.args.n c.args.array in
    let v = c.args.plan.now.sizes.channels in
    let long = put_long c.args.t.now (v * 4) c.args.stored (row_bytes v number) (length_row v number) (rows_room v c.args.stored _ c.requires.2) c.loop-k.invariant in
    omega (arith, row_room v c.args.stored c.loop-k.k _ c.requires.2 c.loop-k-test.true)

pub put_row-requires : goal.put_row-requires
put_row-requires c = let number = laid_number c.args.plan.now.bytes.now c.args.n c.args.array in
    let v = c.args.plan.now.sizes.channels in
    let long = put_long c.args.t.now (v * 4) c.args.stored (row_bytes v number) (length_row v number) (rows_room v c.args.stored _ c.requires.2) c.loop-k.invariant in
    let lent = lent_long c.loop-k.t (4 * (v * c.loop-k.k)) (4 * v) (omega (arith, row_room v c.args.stored c.loop-k.k _ c.requires.2 c.loop-k-test.true)) in
    (c.requires.0, omega (arith, c.requires.1, c.loop-k-test.true), lent.0, omega (arith, lent.1, c.requires.3))

pub loop-k-preserved : goal.loop-k-preserved
loop-k-preserved c = let number = laid_number c.args.plan.now.bytes.now c.args.n c.args.array in
    let v = c.args.plan.now.sizes.channels in
    put_more c.args.t.now (v * 4) c.args.stored (row_bytes v number) (length_row v number) (rows_room v c.args.stored _ c.requires.2) c.loop-k-test.true (omega arith) c.loop-k.invariant c.put_row.ensures

pub returns : goal.returns
returns c = let number = laid_number c.args.plan.now.bytes.now c.args.n c.args.array in
    let v = c.args.plan.now.sizes.channels in
    as_array v number c.args.t.now c.args.stored (put_all c.args.t.now (v * 4) c.args.stored (row_bytes v number) (length_row v number) (rows_room v c.args.stored _ c.requires.2) c.loop-k-test.false c.loop-k.invariant)
