-- The invariants of `live::kept_tops`.
use Rattle.live.specs.State.{kept_top}
use Rattle.live.proofs.Filling.{Filled}
use Rattle.live.proofs.kept_tops.Given as goal

abbrev pub invariant-loop-channel : goal.invariant-loop-channel
invariant-loop-channel l = Filled 0 l.initial.kept (kept_top l.tops l.v) l.channel l.kept
