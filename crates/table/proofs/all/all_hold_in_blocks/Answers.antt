-- `table::all::all_hold_in_blocks` meets its contract. Assumes nothing.
use Prim.Native.Nat.{◌+◌, ◌-◌, ◌%◌}
use native.Mathlib.Omega.{arith}
use Rattle.std.proofs.Common.{rules}
use Rattle.table.proofs.AllBelow.{and_the_last}
use Rattle.table.proofs.all.all_hold_in_blocks.Goals as goal

pub returns : goal.returns
returns g c = λ test same.
    let many = c.if-count-lt-BLOCK.false in
    let n = c.args.count in
    and_the_last test n (n - n % 16) 16 (omega arith) (omega (arith, many)) (omega (arith, many))
    (c.all_hold-2.ensures test (λ k x l p. same k x (omega arith) (search rules)))
    (c.all_hold-3.ensures (λ k. test (n - 16 + k)) (λ k x l p. same (n - 16 + k) x (omega (arith, many)) (search rules)))
