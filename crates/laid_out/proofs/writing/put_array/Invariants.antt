-- The invariants of `laid_out::writing::put_array`.
use Prim.Native.Nat.{◌*◌}
use Rattle.plan.proofs.PlanBytes.{row_bytes}
use Rattle.laid_out.specs.inner.LaidNumbers.{laid_number}
use Rattle.laid_out.proofs.Fronts.{Put}
use Rattle.laid_out.proofs.writing.put_array.Given as goal

abbrev pub invariant-loop-k : goal.invariant-loop-k
invariant-loop-k l = Put l.initial.t (l.plan.sizes.channels * 4) l.stored (row_bytes l.plan.sizes.channels (laid_number l.plan.bytes.now l.n l.array)) l.t l.k
