-- The invariants of `laid_out::writing::put_tops`.
use Rattle.laid_out.proofs.Fronts.{Put}
use Rattle.laid_out.proofs.LaidBytes.{words}
use Rattle.plan.specs.Layout.{top_of}
use Rattle.laid_out.proofs.writing.put_tops.Given as goal

abbrev pub invariant-loop-channel : goal.invariant-loop-channel
invariant-loop-channel l = Put l.initial.t 4 l.plan.sizes.channels (words (λ k. top_of l.plan.bytes.now) 0) l.t l.channel
