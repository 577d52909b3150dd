-- The invariants of `laid_out::writing::put_row`.
use Rattle.laid_out.proofs.Fronts.{Put}
use Rattle.laid_out.proofs.LaidBytes.{words}
use Rattle.laid_out.specs.inner.LaidNumbers.{laid_number}
use Rattle.laid_out.proofs.writing.put_row.Given as goal

abbrev pub invariant-loop-channel : goal.invariant-loop-channel
invariant-loop-channel l = Put l.initial.t 4 l.plan.sizes.channels (words (laid_number l.plan.bytes.now l.n l.array) l.k) l.t l.channel
